-- An op and its number tell each other. Assumes nothing.
use Rattle.std.specs.Prelude.{ℕ, ◌≤◌, ◌<◌, ◌≡◌, refl, Some, None}
use Rattle.std.proofs.Common.{arith, sym}
use Rattle.rungs.proofs.Laws.Numbers.{Firsts, ◌then◌, past, every}
use Rattle.list_ops.specs.Ops.{op_number, cases, numbered}
use Rattle.list_ops.specs.declared.Op.{Op}
use Rattle.list_ops.specs.declared.Op.TheVariants.{Ld, Ldn, St, Stn, And, Andn, Or, Orn, Xor, Xorn, Not, Jmp, Jmpc, Jmpcn, S, R, Ton}

-- the op that has an op's number is that op
pub op_numbered : (op : Op) → numbered (op_number op) ≡ Some op
unfolding op_number cases numbered
op_numbered Ld = refl
op_numbered Ldn = refl
op_numbered St = refl
op_numbered Stn = refl
op_numbered And = refl
op_numbered Andn = refl
op_numbered Or = refl
op_numbered Orn = refl
op_numbered Xor = refl
op_numbered Xorn = refl
op_numbered Not = refl
op_numbered Jmp = refl
op_numbered Jmpc = refl
op_numbered Jmpcn = refl
op_numbered S = refl
op_numbered R = refl
op_numbered Ton = refl

-- the number of the op that has a number
told : (k : ℕ) → (op : Op) → numbered k ≡ Some op → op_number op ≡ k
unfolding op_number cases numbered Firsts past
told k = every 18 (λ k. (op : Op) → numbered k ≡ Some op → op_number op ≡ k)
    ((λ op e. absurd (cc)) then (λ op e. number_of Ld e) then (λ op e. number_of Ldn e) then (λ op e. number_of St e) then (λ op e. number_of Stn e)
    then (λ op e. number_of And e) then (λ op e. number_of Andn e) then (λ op e. number_of Or e) then (λ op e. number_of Orn e) then (λ op e. number_of Xor e)
    then (λ op e. number_of Xorn e) then (λ op e. number_of Not e) then (λ op e. number_of Jmp e) then (λ op e. number_of Jmpc e) then (λ op e. number_of Jmpcn e)
    then (λ op e. number_of S e) then (λ op e. number_of R e) then (λ op e. number_of Ton e) then tt)
    (λ k op e. absurd (cc)) k
  where
    number_of : (x : Op) {op : Op} → Some x ≡ Some op → op_number op ≡ op_number x
    number_of x {op} e = let f : x ≡ op = cc in rw f refl

pub number_told : {k : ℕ} {op : Op} → numbered k ≡ Some op → k ≡ op_number op
number_told {k} {op} e = sym (told k op e)

-- a number that no op has
pub none_numbered : {k : ℕ} → numbered k ≡ None → 1 ≤ k → 17 < k
unfolding cases numbered Firsts past
none_numbered {k} = every 18 (λ k. numbered k ≡ None → 1 ≤ k → 17 < k)
    ((λ e l. absurd (omega arith)) then no then no then no then no then no then no then no then no then no then no then no then no then no then no then no then no then no then tt)
    (λ k e l. omega arith) k
  where
    no : {x : Op} {k : ℕ} → Some x ≡ None → 1 ≤ k → 17 < k
    no e l = absurd (cc)
