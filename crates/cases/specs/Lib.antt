-- The measured pieces, and what each of them claims.
pub mod Cases
pub mod Claims
