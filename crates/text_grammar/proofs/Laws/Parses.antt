-- Laws of what is read, whatever it is: it is one thing, and parts are read one after the other. Crates above cite them. Assumes nothing.
use Rattle.std.specs.Prelude.{ℕ, ◌≡◌, List, [], ◌∷◌, ◌++◌}
use Rattle.std.proofs.Common.{arith, sym, ap, append_assoc}
use Rattle.std.proofs.Math.Path.{refl}
use Rattle.text_grammar.specs.Reader.{Parse, read, stuck, map_p, bind}

-- what was read is one thing
pub same_tree : {A : Type 0} {n m : ℕ} {t u : A} → read n t ≡ read m u → t ≡ u
same_tree e = cc

pub not_both : {A : Type 0} (p : Parse A) (x n : ℕ) (t : A) → p ≡ stuck x → p ≡ read n t → ⊥
not_both p x n t a b = let z : ◌≡◌ {A = ℕ} 0 1 = cc in omega arith

-- a part, and then what follows it
module _ {A B : Type 0} (p : Parse A) (rest : ℕ → A → Parse B) where
  pub bind_stuck : (x : ℕ) → p ≡ stuck x → bind p rest ≡ stuck x
  unfolding bind
  bind_stuck x e = rw e refl

  pub bind_read : (n : ℕ) (a : A) → p ≡ read n a → bind p rest ≡ rest n a
  unfolding bind
  bind_read n a e = rw e refl

module _ {A B : Type 0} (f : A → B) (p : Parse A) where
  pub map_stuck : (x : ℕ) → p ≡ stuck x → map_p f p ≡ stuck x
  unfolding map_p
  map_stuck x e = rw e refl

  pub map_read : (n : ℕ) (a : A) → p ≡ read n a → map_p f p ≡ read n (f a)
  unfolding map_p
  map_read n a e = rw e refl

-- parts of one sort, in a row: those that are done, and those that are left
pub map_none : {A : Type 0} (p : Parse (List A)) → map_p (λ gs. [] ++ gs) p ≡ p
unfolding map_p
map_none (read n r) = refl
map_none (stuck x) = refl

pub map_more : {A : Type 0} (done : List A) (g : A) (p : Parse (List A)) → map_p (λ gs. done ++ gs) (map_p (λ gs. g ∷ gs) p) ≡ map_p (λ gs. (done ++ g ∷ []) ++ gs) p
unfolding map_p
map_more done g (read n r) = ap (read n) (sym (append_assoc done (g ∷ []) r))
map_more done g (stuck x) = refl
