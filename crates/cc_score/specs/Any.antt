-- Whether some row passes a test.
use Rattle.std.specs.Prelude.{◌≡◌, ℕ, zero, suc, Bool, true, false, ◌||◌}

-- a row below `count` passes the test
abbrev pub any_to : (test : ℕ → Bool) → (count : ℕ) → Bool
any_to test zero = false
any_to test (suc count) = test count || any_to test count

-- the answer tells whether some row passes the test
abbrev pub Finds : (test : ℕ → Bool) → Bool → Type 0
Finds test true = (row : ℕ) × (test row ≡ true)
Finds test false = (row : ℕ) → test row ≡ false
