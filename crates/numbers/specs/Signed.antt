-- Signed numbers as stored ones (01, "Bytes").
use Rattle.std.specs.Prelude.{ℕ, suc, ◌-◌, ◌*◌, ◌/◌, ◌%◌, cond, ℤ, pos, negsuc, eqb}

-- "A signed n is stored as 2n when n is 0 or more, else as -2n - 1": `negsuc n` is -(n + 1)
unfoldable pub stored : ℤ → ℕ
stored (pos n) = 2 * n
stored (negsuc n) = 2 * suc n - 1

-- the signed number that is stored as n
unfoldable pub signed : ℕ → ℤ
signed n = cond (eqb (n % 2) 0) (pos (n / 2)) (negsuc (n / 2))
