-- What the writer answers and leaves in its target.
-- A reader must believe these definitions; nothing here is proved.
use Rattle.std.specs.Prelude.{List, ℕ, length}
use Rattle.calls.specs.Calls.{on_verdict, leaves}
use Rattle.sketch.specs.Written.{file_of, write_verdict, written}
use Rattle.std.specs.declared.result.Result.{Result}
use Rattle.calls.specs.declared.Refusal.{Refusal}
use Rattle.std.specs.declared.result.Result.TheVariants.{Ok, Err}

abbrev pub write_answer : List ℕ → List ℕ → Result ℕ Refusal
write_answer t target = on_verdict (write_verdict t target) (Ok (length (file_of t))) Err

abbrev pub write_leaves : List ℕ → List ℕ → List ℕ
write_leaves t target = leaves (write_verdict t target) (written t target) target
