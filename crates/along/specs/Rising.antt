-- Numbers counted up.
-- Assumes nothing.
use Rattle.std.specs.Prelude.{ℕ, zero, suc, List, [], ◌∷◌}

-- n numbers, from k on
abbrev pub rising : (n k : ℕ) → List ℕ
rising zero k = []
rising (suc n) k = k ∷ rising n (suc k)
