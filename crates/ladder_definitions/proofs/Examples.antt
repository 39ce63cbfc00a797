-- Worked words and records, worked questions 4 to 9 and 17, and bench ladder J. Assumes nothing.
use Rattle.std.specs.Prelude.{◌≡◌, refl, ℕ, zero, suc, ◌-◌, length, replicate}
use Rattle.std.proofs.Math.Option.{some}
use mathlib.Core.List.{List, [], ◌∷◌, ◌++◌, map, flat_map}
use Rattle.rungs.specs.Records.{search, present, lay}
use Rattle.questions.specs.Tests.{all, first_failed}
use Rattle.questions.specs.Questions.{Answer, yes, ask, ask_each, vars_in_range, question1, first_no}
use Rattle.ladder_definitions.specs.Tree.{Front, front_and, rear_or, Rung, Ladder, front_all, rear_all, rung_all, input_variable, output_names, number}
use Rattle.ladder_definitions.specs.Kept.{input_kind, output_kind, input_word, output_word, front_words, rear_words, rung_words, encode, decode, decode_from, decode_rung, decode_words, one_rung, kinds, put_input, put_front, put_output, put_rear_and, put_rear_or}
use Rattle.ladder_definitions.specs.Questions.{ladder_of, holds_ladder, question4, sizes_in_range, question5, question6, question7, question8, scratch_in_range, question9, timers_known, question17, named_timed, output_timed, new_labels, input_below, named_below, output_below, named_leads, output_leads, join_scratch, front_scratch, rear_scratch, rung_scratch, form_questions, ladder_questions, ladder_answer}
use Rattle.ladder_definitions.specs.Bench.{rung, c, o, j, k, ladder_a, latch, delay}

-- the kept words and records of case A
A_encoded : encode ladder_a ≡ record {
  words = 262144 ∷ 65536 ∷ 196608 ∷ 65537 ∷ 131074 ∷ 655360 ∷ 327681 ∷ 589824 ∷ 65539 ∷ 458772 ∷ 131075 ∷ 327684 ∷ [];
  records = record { label = 10; offset = 0; length = 10 } ∷ record { label = 20; offset = 10; length = 2 } ∷ [];
}
unfolding encode lay rung_words front_words rear_words input_word input_kind input_variable output_word output_kind output_names number flat_map
A_encoded = refl

-- 02, Req 01: kinds 11 and 12
latch_encoded : encode latch ≡ record {
  words = 65536 ∷ 720898 ∷ 65537 ∷ 786434 ∷ [];
  records = record { label = 10; offset = 0; length = 2 } ∷ record { label = 20; offset = 2; length = 2 } ∷ [];
}
unfolding encode lay rung_words front_words rear_words input_word input_kind input_variable output_word output_kind output_names number flat_map
latch_encoded = refl

-- 02, Req 06: kind 13
delay_encoded : encode delay ≡ record {
  words = 65536 ∷ 851968 ∷ 65537 ∷ 327682 ∷ [];
  records = record { label = 10; offset = 0; length = 2 } ∷ record { label = 20; offset = 2; length = 2 } ∷ [];
}
unfolding encode lay rung_words front_words rear_words input_word input_kind input_variable output_word output_kind output_names number flat_map
delay_encoded = refl

-- a front of m brackets, each the second part of an and: (c0&(c0&( .. c0&c0)))
nested : ℕ → Front
nested zero = c 0
nested (suc m) = front_and (c 0) (nested m)

-- c0 and m contacts more, joined by & to the left: c0&c0& .. &c0
joined : ℕ → Front
joined zero = c 0
joined (suc m) = front_and (joined m) (c 0)

-- a rung of n contacts joined by & and a coil, of 2 × n words: c0&c0& .. &c0>o0
contacts : ℕ → Rung
contacts n = rung 0 (joined (n - 1)) (o 0)

-- a ladder of rungs c0>o0 with these labels
labelled : List ℕ → Ladder
labelled ls = map (λ l. rung l (c 0) (o 0)) ls

refused : ℕ → ℕ → Answer
refused n place = some (record { number = n; place = place })

-- each question's "no", and the "yes" beside it
answers : List Answer
answers =
    -- questions 1 and 4 to 9
    ladder_answer 5 (encode ladder_a)
    ∷ ladder_answer 0 (encode [])
    ∷ ladder_answer 1025 (encode ladder_a)
    ∷ ladder_answer 5 (encode [])
    -- 4
    ∷ question4 (record { words = 65536 ∷ 327680 ∷ []; records = record { label = 0; offset = 0; length = 3 } ∷ [] })
    ∷ question4 (record { words = 65536 ∷ 327680 ∷ []; records = record { label = 0; offset = 1; length = 2 } ∷ [] })
    ∷ question4 (record { words = 65536 ∷ 327680 ∷ []; records = record { label = 0; offset = 0; length = 2 } ∷ [] })
    ∷ question4 (record { words = 196609 ∷ 65536 ∷ 65536 ∷ 327680 ∷ []; records = record { label = 0; offset = 0; length = 4 } ∷ [] })
    -- 4 of the kinds 11, 12, 13 and 14
    ∷ question4 (record { words = 65536 ∷ 720896 ∷ []; records = record { label = 0; offset = 0; length = 2 } ∷ [] })
    ∷ question4 (record { words = 65536 ∷ 786432 ∷ []; records = record { label = 0; offset = 0; length = 2 } ∷ [] })
    ∷ question4 (record { words = 65536 ∷ 851968 ∷ []; records = record { label = 0; offset = 0; length = 2 } ∷ [] })
    ∷ question4 (record { words = 65536 ∷ 917504 ∷ []; records = record { label = 0; offset = 0; length = 2 } ∷ [] })
    -- 5: 256 rungs and 257, 128 words in a rung and 130, 8,192 words and 8,194
    ∷ question5 (replicate 256 (contacts 1))
    ∷ question5 (replicate 257 (contacts 1))
    ∷ question5 (contacts 64 ∷ [])
    ∷ question5 (contacts 65 ∷ [])
    ∷ question5 (replicate 64 (contacts 64))
    ∷ question5 (replicate 64 (contacts 64) ++ contacts 1 ∷ [])
    -- 6
    ∷ question6 5 ladder_a
    ∷ question6 4 ladder_a
    ∷ question6 3 ladder_a
    ∷ question6 3 latch
    ∷ question6 2 latch
    -- 7
    ∷ question7 (labelled (1 ∷ 2 ∷ 3 ∷ 4 ∷ []))
    ∷ question7 (labelled (1 ∷ 2 ∷ 2 ∷ 1 ∷ []))
    ∷ question7 (labelled (1 ∷ 2 ∷ 3 ∷ 1 ∷ []))
    -- 8
    ∷ question8 (rung 1 (c 0) (o 0) ∷ rung 2 (c 0) (rear_or (j 2) (k 1)) ∷ [])
    ∷ question8 (rung 1 (c 0) (o 0) ∷ rung 2 (c 0) (rear_or (j 2) (k 3)) ∷ [])
    ∷ question8 latch
    -- 9
    ∷ question9 (rung 0 (nested 33) (o 0) ∷ [])
    ∷ question9 (rung 0 (nested 34) (o 0) ∷ [])
    -- 17: timer 0 of one record, and of none; a timer number is neither a variable nor a label
    ∷ question17 1 delay
    ∷ question17 0 delay
    ∷ question17 0 ladder_a
    ∷ question6 3 delay
    ∷ question8 delay
    ∷ []

answers_worked : answers ≡
    yes ∷ refused 1 0 ∷ refused 1 0 ∷ refused 4 0
    ∷ refused 4 0 ∷ refused 4 0 ∷ yes ∷ refused 4 0 ∷ yes ∷ yes ∷ yes ∷ refused 4 0
    ∷ yes ∷ refused 5 0 ∷ yes ∷ refused 5 0 ∷ yes ∷ refused 5 0
    ∷ yes ∷ refused 6 1 ∷ refused 6 0 ∷ yes ∷ refused 6 0
    ∷ yes ∷ refused 7 2 ∷ refused 7 3
    ∷ yes ∷ refused 8 1 ∷ yes
    ∷ yes ∷ refused 9 0
    ∷ yes ∷ refused 17 0 ∷ yes ∷ yes ∷ yes
    ∷ []
unfolding answers refused nested joined contacts labelled form_questions ladder_questions ladder_answer ladder_of
    encode lay rung_words front_words rear_words input_word input_kind input_variable output_word output_kind output_names number flat_map
    decode decode_from decode_rung decode_words one_rung kinds put_input put_front put_output put_rear_and put_rear_or ask ask_each first_no first_failed
    vars_in_range question1 holds_ladder question4 sizes_in_range question5 question6 question7 question8 scratch_in_range question9 new_labels present search
    front_all rear_all rung_all input_below named_below output_below named_leads output_leads join_scratch front_scratch rear_scratch rung_scratch named_timed output_timed timers_known question17
answers_worked = refl

-- document 01, "Bench ladders": "J 64 contacts joined by & and a coil: 128 words, taken; 65: refused 5."
J_worked : map {B = ℕ × Answer} (λ n. let kept = encode (contacts n ∷ []) in (length kept.words, ladder_answer 1 kept)) (64 ∷ 65 ∷ [])
    ≡ (128, yes) ∷ (130, refused 5 0) ∷ []
unfolding refused joined contacts form_questions ladder_questions ladder_answer ladder_of
    encode lay rung_words front_words rear_words input_word input_kind input_variable output_word output_kind output_names number flat_map
    decode decode_from decode_rung decode_words one_rung kinds put_input put_front put_output ask ask_each first_no first_failed
    vars_in_range question1 holds_ladder question4 sizes_in_range question5 question6 question7 question8 scratch_in_range question9 new_labels present search
    front_all rear_all rung_all input_below named_below output_below named_leads output_leads join_scratch front_scratch rear_scratch rung_scratch
J_worked = refl
