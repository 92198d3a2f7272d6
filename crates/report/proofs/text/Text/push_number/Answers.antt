-- `push_number`: the digits of a number, by how many there are. Assumes nothing.
use Rattle.std.proofs.Common.{◌≡◌, ◌%◌, ◌/◌, arith, append_assoc}
use Rattle.report.proofs.Growing.{number_one, number_two, number_three}
use Rattle.report.proofs.text.Text.push_number.Goals as goal
use Rattle.report.proofs.text.Text.push_number.Goals.{then-v-ge100, else-v-ge100, then-v-ge10, else-v-ge10}

pub returns : goal.returns
returns c =
    let v = c.args.v in
    let last = c.push_digit-2.ensures in
    elim c.if-v-ge100.branch [
      | then-v-ge100 w ↦
          elim c.if-v-ge10.branch [
            | then-v-ge10 u ↦
                rw (last, u.self-is, u.push_digit-then-v-ge10.ensures, w.self-is, w.push_digit.ensures, number_three v w.if-v-ge100.true) (simp append_assoc)
            | else-v-ge10 u ↦ absurd (omega (arith, w.if-v-ge100.true, u.if-v-ge10.false))
          ]
      | else-v-ge100 w ↦
          elim c.if-v-ge10.branch [
            | then-v-ge10 u ↦
                let tens : v / 10 % 10 ≡ v / 10 = omega (arith, w.if-v-ge100.false) in
                rw (last, u.self-is, u.push_digit-then-v-ge10.ensures, w.self-is, tens, number_two v u.if-v-ge10.true w.if-v-ge100.false) (simp append_assoc)
            | else-v-ge10 u ↦
                let ones : v % 10 ≡ v = omega (arith, u.if-v-ge10.false) in
                rw (last, u.self-is, w.self-is, ones, number_one v u.if-v-ge10.false)
          ]
    ]
