-- An answer that was read, as one number. Assumes nothing.
use Rattle.std.specs.Prelude.{ℕ, ◌+◌, ◌*◌, ◌%◌, List, length, Some, None, Option}
use Rattle.octets.specs.Answers.{Answer, Read, Fault}
use Rattle.answers.specs.Answers.{Allows, All, Only, Content}

-- 0 for no token, else one more than its length
abbrev pub token_number : Option (List ℕ) → ℕ
token_number None = 0
token_number (Some t) = 1 + length t % 128

-- 0 for nobody, 1 for all, 2 for a site
abbrev pub allowed_number : Option Allows → ℕ
allowed_number None = 0
allowed_number (Some All) = 1
allowed_number (Some (Only host port)) = 2

-- the number of a fault; else code, length of the body, token and whom it allows in one number
abbrev pub summary : Answer Content → ℕ
summary (Fault n) = n
summary (Read a) = 16 + a.code * 16777216 * 1024 + length a.body % 65536 * 1024 + token_number a.token * 4 + allowed_number a.allowed
