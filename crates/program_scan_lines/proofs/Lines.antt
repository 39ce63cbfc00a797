-- The table's bytes have room. Assumes nothing.
use mathlib.Core.Bool.{Bool, true, false, ◌&&◌}
use mathlib.Core.Path.{◌≡◌, refl}
use Prim.Native.Nat.{ℕ, ◌+◌, ◌≤◌}
use native.Mathlib.Omega.{arith}
use borrow.Author.Tests.{leb-true}
use lib.Dec.{eqb, leb}
use Rattle.std.specs.Prelude.{Option, Some, None}
use Rattle.program_scan_lines.specs.Parts.{table_bytes}

bytes_short : (v : Option ℕ) (vars : ℕ) → table_bytes v vars ≤ 1056
unfolding table_bytes
bytes_short None vars = omega arith
bytes_short (Some c) vars = go (leb vars 1024) (eqb c vars) refl
  where
    go : (x y : Bool) → leb vars 1024 ≡ x → (elim (x && y) [ true ↦ vars + 32 | false ↦ 0 ]) ≤ 1056
    go true true e = omega (arith, leb-true vars 1024 e)
    go true false e = omega arith
    go false y e = omega arith

pub bytes_room : (n : ℕ) (v : Option ℕ) (vars : ℕ) → n ≡ table_bytes v vars → n ≤ 1056
bytes_room n v vars e = omega (arith, e, bytes_short v vars)
