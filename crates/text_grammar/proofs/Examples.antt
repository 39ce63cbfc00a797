-- Worked texts: the bench rows A, G, H, I of document 01, and more. Assumes nothing.
use Rattle.std.specs.Prelude.{◌≡◌, refl, List, [], ◌∷◌, map, ℕ}
use Rattle.questions.specs.Bytes.{bytes}
use Rattle.ladder_definitions.specs.Tree.{contact, contactn, Front, input, front_and, front_or, coil, jump, set_coil, reset_coil, timer, Rear, output, rear_and, rear_or, Ladder}
use Rattle.text_grammar.specs.Reader.{Parse, read, stuck, map_p, bind, followed, digit_of, digits_from, numeral_of, chain, term_by, front_by, factor_by, factor_of, term_of, front_of, opens_factor, branch_by, rear_by, output_at, end_by, end_of, rear_of, rung, line_of, lines_of, text_of}

pub record Row : Type 0 where
  pub text : List ℕ
  pub answer : Parse Ladder

abbrev c : ℕ → Front
c v = input (contact v)

abbrev n : ℕ → Front
n v = input (contactn v)

abbrev o : ℕ → Rear
o v = output (coil v)

abbrev j : ℕ → Rear
j l = output (jump l)

abbrev s : ℕ → Rear
s v = output (set_coil v)

abbrev r : ℕ → Rear
r v = output (reset_coil v)

abbrev t : ℕ → Rear
t number = output (timer number)

pub rows : List Row
rows =
    record { text = bytes "10:c0|c1&n2>o1|c3&j20\n20:n3>o4\n"; answer = read 31 (rung 10 (front_or (c 0) (front_and (c 1) (n 2))) (rear_or (o 1) (rear_and (c 3) (j 20))) ∷ rung 20 (n 3) (o 4) ∷ []) }
    ∷ record { text = bytes "65536:"; answer = stuck 4 }
    ∷ record { text = bytes "00:"; answer = stuck 1 }
    ∷ record { text = bytes "7:c0>o0"; answer = stuck 7 }
    ∷ record { text = bytes ""; answer = stuck 0 }
    ∷ record { text = bytes "7:c0>o0\n\0"; answer = stuck 8 }
    ∷ record { text = bytes "7:c0>o0\n "; answer = stuck 8 }
    ∷ record { text = bytes "7:c0>c1\n"; answer = stuck 7 }
    ∷ record { text = bytes "7:c0>c1&q"; answer = stuck 9 }
    ∷ record { text = bytes "7:c0|c1|c2&n3&c4>o0|j1|o2\n"; answer = read 26 (rung 7 (front_or (front_or (c 0) (c 1)) (front_and (front_and (c 2) (n 3)) (c 4))) (rear_or (o 0) (rear_or (j 1) (o 2))) ∷ []) }
    ∷ record { text = bytes "0:(c0|n65535)&c1>(c2)&[o0|[j1]]\n"; answer = read 32 (rung 0 (front_and (front_or (c 0) (n 65535)) (c 1)) (rear_and (c 2) (rear_or (o 0) (j 1))) ∷ []) }
    ∷ record { text = bytes "0:((((((((((((((((c0))))))))))))))))>o0\n"; answer = stuck 17 }
    ∷ record { text = bytes "0:(((((((((((((((c0)))))))))))))))>o0\n"; answer = read 38 (rung 0 (c 0) (o 0) ∷ []) }
    ∷ record { text = bytes "0:c0>[[[[[[[[[[[[[[((c0"; answer = stuck 20 }
    ∷ record { text = bytes "0:c0>[[[[[[[[[[[[[[[("; answer = stuck 20 }
    ∷ record { text = bytes "0:c0)"; answer = stuck 4 }
    ∷ record { text = bytes "x"; answer = stuck 0 }
    ∷ record { text = bytes "0:c100000"; answer = stuck 8 }
    ∷ record { text = bytes "0:c0>o065"; answer = stuck 7 }
    -- 02, Req 01
    ∷ record { text = bytes "1:c0>s1\n2:c2>r1\n"; answer = read 16 (rung 1 (c 0) (s 1) ∷ rung 2 (c 2) (r 1) ∷ []) }
    ∷ record { text = bytes "0:c0>c1&[s2|r65535]\n"; answer = read 20 (rung 0 (c 0) (rear_and (c 1) (rear_or (s 2) (r 65535))) ∷ []) }
    ∷ record { text = bytes "0:s0>o0\n"; answer = stuck 2 }
    ∷ record { text = bytes "0:c0>s"; answer = stuck 6 }
    ∷ record { text = bytes "0:c0>r1&"; answer = stuck 7 }
    ∷ record { text = bytes "0:c0>s65536"; answer = stuck 10 }
    -- 02, Req 06
    ∷ record { text = bytes "0:c0>t0\n"; answer = read 8 (rung 0 (c 0) (t 0) ∷ []) }
    ∷ record { text = bytes "0:c0>c1&[t65535|o2]|t31\n"; answer = read 24 (rung 0 (c 0) (rear_or (rear_and (c 1) (rear_or (t 65535) (o 2))) (t 31)) ∷ []) }
    ∷ record { text = bytes "0:t0>o0\n"; answer = stuck 2 }
    ∷ record { text = bytes "0:c0>t"; answer = stuck 6 }
    ∷ record { text = bytes "0:c0>t65536"; answer = stuck 10 }
    ∷ record { text = bytes "0:c0>t00"; answer = stuck 7 }
    ∷ record { text = bytes "0:c0>d0"; answer = stuck 5 }
    ∷ []

pub texts_read : map (λ (r : Row). text_of r.text) rows ≡ map (λ (r : Row). r.answer) rows
unfolding rows bytes text_of lines_of line_of rear_of end_of end_by output_at rear_by branch_by opens_factor front_of term_of factor_of factor_by front_by term_by chain numeral_of digits_from digit_of followed bind map_p
texts_read = refl
