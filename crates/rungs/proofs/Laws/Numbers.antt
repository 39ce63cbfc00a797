-- What holds of every number, from what holds of each of the first, one by one, and of all the rest; and a number that is none of the first.
-- For tables by kind and by op. Assumes nothing.
use Rattle.std.specs.Prelude.{ℕ, zero, suc, ◌≤◌, ◌<◌, ◌≡◌}
use Rattle.std.proofs.Common.{arith}

-- P of each of the first n numbers
unfoldable pub Firsts : ℕ → (ℕ → Type 0) → Type 0
Firsts zero P = Unit {0}
Firsts (suc n) P = P zero × Firsts n (λ k. P (suc k))

infixr 20 ◌then◌
abbrev pub ◌then◌ : {A B : Type 0} → A → B → A × B
a then b = (a, b)

-- the number k past the first n
unfoldable pub past : ℕ → ℕ → ℕ
past zero k = k
past (suc n) k = suc (past n k)

pub every : (n : ℕ) (P : ℕ → Type 0) → Firsts n P → ((k : ℕ) → P (past n k)) → (k : ℕ) → P k
unfolding Firsts past
every zero P firsts rest k = rest k
every (suc n) P firsts rest zero = firsts.0
every (suc n) P firsts rest (suc k) = every n (λ j. P (suc j)) firsts.1 rest k

-- k is none of 1 to n
unfoldable pub none_to : ℕ → ℕ → Type 0
none_to k zero = Unit {0}
none_to k (suc n) = none_to k n × (k ≡ suc n → ⊥)

pub past_all : (k n : ℕ) → none_to k n → 1 ≤ k → n < k
unfolding none_to
past_all k zero differs lo = lo
past_all k (suc n) differs lo = let h = past_all k n differs.0 lo in omega (arith, differs.1)
