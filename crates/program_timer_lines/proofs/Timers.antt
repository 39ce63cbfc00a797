-- Laws of ladder-scan's lines of ticks and timers, and of the records that are held. Assumes nothing.
use mathlib.Core.Path.{◌≡◌, refl, ap, sym, ◌∙◌}
use mathlib.Core.Bool.{Bool, true, false, not, ◌&&◌, ◌||◌}
use mathlib.Core.Option.{Option, none, some}
use mathlib.Core.List.{List, [], ◌∷◌}
use Prim.Native.Nat.{ℕ, ◌+◌, ◌≤◌}
use native.Mathlib.Omega.{arith}
use borrow.Author.Tests.{eqb-true}
use lib.Dec.{eqb, leb}
use lib.ListN.{length, get_or, take, drop, length-drop}
use lib.Seq.{drop-drop}
use Rattle.questions.specs.Bytes.{bytes, same_bytes}
use Rattle.questions.specs.Tests.{all}
use Rattle.table.specs.Timer.{Timer}
use Rattle.program_definitions.specs.Lines.{first_line, text_after}
use Rattle.program_definitions.specs.TimerLines.{before_space, after_space, is_digit, number_in, is_number, now_of, timer_of, now_taken}
use Rattle.program_timer_lines.specs.Fields.{has_space, stands_at, FieldTaken, BreakTaken}
use Rattle.program_timer_lines.specs.Timers.{NowRead, TimerRead}
use Rattle.program_timer_lines.specs.declared.Field.{Field}
use Rattle.program_timer_lines.proofs.Words.{false_true, in_line, Leads, leads}

-- ---- a line's last field is all that is left of the line

no_space : (l : List ℕ) → has_space l ≡ false → (before_space l ≡ l) × (after_space l ≡ [])
unfolding has_space before_space after_space
no_space [] h = (refl, refl)
no_space (b ∷ bs) h = go (eqb b 32) refl h (no_space bs)
  where
    go : (t : Bool) → eqb b 32 ≡ t → has_space (b ∷ bs) ≡ false → (has_space bs ≡ false → (before_space bs ≡ bs) × (after_space bs ≡ []))
        → (before_space (b ∷ bs) ≡ b ∷ bs) × (after_space (b ∷ bs) ≡ [])
    go true e q later = let z : true ≡ false = sym (rw (e, has_space) refl) ∙ q in false_true (sym z)
    go false e q later =
        let k = later (sym (rw (e, has_space) refl) ∙ q) in
        (rw (e, before_space) (ap (λ (l : List ℕ). b ∷ l) k.0), rw (e, after_space) k.1)

space_digits : (l : List ℕ) → has_space l ≡ true → all is_digit l ≡ false
unfolding has_space is_digit
space_digits [] h = false_true h
space_digits (b ∷ bs) h = go (eqb b 32) refl h (space_digits bs)
  where
    and_no : (p : Bool) → (p && false) ≡ false
    and_no true = refl
    and_no false = refl

    go : (t : Bool) → eqb b 32 ≡ t → has_space (b ∷ bs) ≡ true → (has_space bs ≡ true → all is_digit bs ≡ false) → all is_digit (b ∷ bs) ≡ false
    go true e q later = rw (eqb-true b 32 e) refl
    go false e q later = rw (later (sym (rw (e, has_space) refl) ∙ q)) (and_no (is_digit b))

space_number : (most : ℕ) (l : List ℕ) → has_space l ≡ true → is_number most l ≡ false
unfolding is_number
space_number most l h = go (leb 1 (length l))
  where
    go : (p : Bool) → (p && (all is_digit l && ((eqb (length l) 1 || not (eqb (get_or l 0 0) 48)) && leb (number_in l) most))) ≡ false
    go true = rw (space_digits l h) refl
    go false = refl

last_number : (most : ℕ) (l : List ℕ) → is_number most l ≡ (is_number most (before_space l) && not (has_space l))
last_number most l = go (has_space l) refl
  where
    and_yes : (p : Bool) → (p && true) ≡ p
    and_yes true = refl
    and_yes false = refl

    and_no : (p : Bool) → (p && false) ≡ false
    and_no true = refl
    and_no false = refl

    go : (t : Bool) → has_space l ≡ t → is_number most l ≡ (is_number most (before_space l) && not (has_space l))
    go true e = space_number most l e ∙ sym (rw e (and_no (is_number most (before_space l))))
    go false e = sym (rw (e, (no_space l e).0) (and_yes (is_number most l)))

-- ---- the tick

now_in_line : in_line (bytes "now ") ≡ true
unfolding bytes
now_in_line = refl

-- a line that is none, and one that is
module _ (input : List ℕ) (from : ℕ) where
  abbrev whole_line : List ℕ
  whole_line = first_line (drop from input)

  now_none : now_of whole_line ≡ none → NowRead input from (record { tick = 0; at = from })
  unfolding now_taken
  now_none e = record { tick = rw (e, now_taken) refl; rest = rw (e, now_taken) refl; within = λ w. w }

  now_some : (n at : ℕ) → now_of whole_line ≡ some n → drop at input ≡ text_after (drop from input) → (from ≤ length input → at ≤ length input)
      → NowRead input from (record { tick = n; at = at })
  unfolding now_taken
  now_some n at e q w = record { tick = rw (e, now_taken) refl; rest = rw (e, now_taken) q; within = w }

  now_word : Leads (bytes "now ") (drop from input)
  now_word = leads (bytes "now ") (drop from input) now_in_line

  pub now_other : stands_at input from (bytes "now ") ≡ false → NowRead input from (record { tick = 0; at = from })
  unfolding now_of bytes
  now_other h = now_none (rw (now_word.line ∙ h, now_of) refl)

  module _ (h : stands_at input from (bytes "now ") ≡ true) where
    pub now_room : from + 4 ≤ length input
    unfolding bytes
    now_room = let k = now_word.room h in omega (arith, length-drop from input)

    now_later : drop 4 whole_line ≡ first_line (drop (from + 4) input)
    unfolding bytes
    now_later = now_word.later h ∙ ap first_line (drop-drop 4 from input)

    now_text : text_after (drop (from + 4) input) ≡ text_after (drop from input)
    unfolding bytes
    now_text = sym (ap text_after (drop-drop 4 from input)) ∙ now_word.rest h

    now_not : is_number 4294967295 (drop 4 whole_line) ≡ false → NowRead input from (record { tick = 0; at = from })
    unfolding now_of bytes
    now_not q = now_none (rw (now_word.line ∙ h, q, now_of) refl)

    now_is : is_number 4294967295 (drop 4 whole_line) ≡ true → now_of whole_line ≡ some (number_in (drop 4 whole_line))
    unfolding now_of bytes
    now_is q = rw (now_word.line ∙ h, q, now_of) refl

    -- the number of the line, by the field after the word
    abbrev after_now : List ℕ
    after_now = first_line (drop (from + 4) input)

    number_as : is_number 4294967295 (drop 4 whole_line) ≡ (is_number 4294967295 (before_space after_now) && not (has_space after_now))
    number_as = ap (is_number 4294967295) now_later ∙ last_number 4294967295 after_now

    pub now_illegal : is_number 4294967295 (before_space after_now) ≡ false → NowRead input from (record { tick = 0; at = from })
    now_illegal e = now_not (number_as ∙ rw e refl)

    module _ {f : Field} (t : FieldTaken input (from + 4) 4294967295 f) where
      pub now_spaced : f.spaced ≡ true → NowRead input from (record { tick = 0; at = from })
      now_spaced q = now_not (number_as ∙ rw (t.legal, sym t.spaced ∙ q) refl)

      pub now_taken_lem : (at : ℕ) → f.spaced ≡ false → BreakTaken input f.at at → NowRead input from (record { tick = f.value; at = at })
      now_taken_lem at q b =
          let s = no_space after_now (sym t.spaced ∙ q) in
          let n : f.value ≡ number_in (drop 4 whole_line) = t.value ∙ (ap number_in s.0 ∙ ap number_in (sym now_later)) in
          now_some f.value at (now_is (number_as ∙ rw (t.legal, sym t.spaced ∙ q) refl) ∙ ap some (sym n))
          (b.rest (t.after ∙ s.1) ∙ (t.rest ∙ now_text))
          (λ w. b.within (t.within now_room))

-- ---- the line of a timer

timer_in_line : in_line (bytes "timer ") ≡ true
unfolding bytes
timer_in_line = refl

-- by its word and its fields, each with what follows it
unfoldable timer_by : Bool → List ℕ → List ℕ → List ℕ → List ℕ → List ℕ → Option Timer
timer_by word preset start variable running done =
    elim (word
    && (is_number 4294967295 (before_space preset)
    && (is_number 4294967295 (before_space start)
    && (is_number 65535 (before_space variable)
    && (is_number 1 (before_space running)
    && is_number 1 done))))) [
      | true ↦ some (record {
        preset = number_in (before_space preset);
        start = number_in (before_space start);
        variable = number_in (before_space variable);
        running = number_in (before_space running);
        done = number_in done;
      })
      | false ↦ none
    ]

timer_by_lem : (line : List ℕ) → let p = drop 6 line in timer_of line
    ≡ timer_by (same_bytes (take 6 line) (bytes "timer ")) p (after_space p) (after_space (after_space p)) (after_space (after_space (after_space p)))
    (after_space (after_space (after_space (after_space p))))
unfolding timer_of timer_by
timer_by_lem line = refl

module _ (input : List ℕ) (from : ℕ) where
  abbrev timers_line : List ℕ
  timers_line = first_line (drop from input)

  timer_word : Leads (bytes "timer ") (drop from input)
  timer_word = leads (bytes "timer ") (drop from input) timer_in_line

  pub timer_other : stands_at input from (bytes "timer ") ≡ false → timer_of timers_line ≡ none
  unfolding timer_of bytes
  timer_other h = rw (timer_word.line ∙ h, timer_of) refl

  module _ (h : stands_at input from (bytes "timer ") ≡ true) where
    pub timer_room : from + 6 ≤ length input
    unfolding bytes
    timer_room = let k = timer_word.room h in omega (arith, length-drop from input)

    timer_later : drop 6 timers_line ≡ first_line (drop (from + 6) input)
    unfolding bytes
    timer_later = timer_word.later h ∙ ap first_line (drop-drop 6 from input)

    timer_text_lem : text_after (drop (from + 6) input) ≡ text_after (drop from input)
    unfolding bytes
    timer_text_lem = sym (ap text_after (drop-drop 6 from input)) ∙ timer_word.rest h

    timer_begins : same_bytes (take 6 timers_line) (bytes "timer ") ≡ true
    unfolding bytes
    timer_begins = timer_word.line ∙ h

    abbrev field_line : ℕ → List ℕ
    field_line at = first_line (drop at input)

    -- the line by its fields, of which some have been read, and the next is no number
    by_word : timer_of timers_line ≡ timer_by true (field_line (from + 6)) (after_space (field_line (from + 6))) (after_space (after_space (field_line (from + 6))))
        (after_space (after_space (after_space (field_line (from + 6))))) (after_space (after_space (after_space (after_space (field_line (from + 6))))))
    by_word = timer_by_lem timers_line ∙ (λ i. let l = timer_later i in timer_by (timer_begins i) l (after_space l) (after_space (after_space l))
        (after_space (after_space (after_space l))) (after_space (after_space (after_space (after_space l)))))

    pub no_preset : is_number 4294967295 (before_space (field_line (from + 6))) ≡ false → timer_of timers_line ≡ none
    unfolding timer_by
    no_preset e = by_word ∙ rw (e, timer_by) refl

    module _ {p : Field} (tp : FieldTaken input (from + 6) 4294967295 p) where
      by_preset : timer_of timers_line ≡ timer_by true (field_line (from + 6)) (field_line p.at) (after_space (field_line p.at))
          (after_space (after_space (field_line p.at))) (after_space (after_space (after_space (field_line p.at))))
      by_preset = by_word ∙ (λ i. let l = sym tp.after i in timer_by true (field_line (from + 6)) l (after_space l) (after_space (after_space l)) (after_space (after_space (after_space l))))

      pub no_start : is_number 4294967295 (before_space (field_line p.at)) ≡ false → timer_of timers_line ≡ none
      unfolding timer_by
      no_start e = by_preset ∙ rw (tp.legal, e, timer_by) refl

      module _ {s : Field} (ts : FieldTaken input p.at 4294967295 s) where
        by_start : timer_of timers_line ≡ timer_by true (field_line (from + 6)) (field_line p.at) (field_line s.at) (after_space (field_line s.at)) (after_space (after_space (field_line s.at)))
        by_start = by_preset ∙ (λ i. let l = sym ts.after i in timer_by true (field_line (from + 6)) (field_line p.at) l (after_space l) (after_space (after_space l)))

        pub no_variable : is_number 65535 (before_space (field_line s.at)) ≡ false → timer_of timers_line ≡ none
        unfolding timer_by
        no_variable e = by_start ∙ rw (tp.legal, ts.legal, e, timer_by) refl

        module _ {v : Field} (tv : FieldTaken input s.at 65535 v) where
          by_variable : timer_of timers_line ≡ timer_by true (field_line (from + 6)) (field_line p.at) (field_line s.at) (field_line v.at) (after_space (field_line v.at))
          by_variable = by_start ∙ (λ i. let l = sym tv.after i in timer_by true (field_line (from + 6)) (field_line p.at) (field_line s.at) l (after_space l))

          pub no_running : is_number 1 (before_space (field_line v.at)) ≡ false → timer_of timers_line ≡ none
          unfolding timer_by
          no_running e = by_variable ∙ rw (tp.legal, ts.legal, tv.legal, e, timer_by) refl

          module _ {r : Field} (tr : FieldTaken input v.at 1 r) where
            by_running : timer_of timers_line ≡ timer_by true (field_line (from + 6)) (field_line p.at) (field_line s.at) (field_line v.at) (field_line r.at)
            by_running = by_variable ∙ (λ i. timer_by true (field_line (from + 6)) (field_line p.at) (field_line s.at) (field_line v.at) (sym tr.after i))

            last_not : is_number 1 (field_line r.at) ≡ false → timer_of timers_line ≡ none
            unfolding timer_by
            last_not e = by_running ∙ rw (tp.legal, ts.legal, tv.legal, tr.legal, e, timer_by) refl

            pub no_done : is_number 1 (before_space (field_line r.at)) ≡ false → timer_of timers_line ≡ none
            no_done e = last_not (last_number 1 (field_line r.at) ∙ rw e refl)

            module _ {d : Field} (td : FieldTaken input r.at 1 d) where
              pub more_fields : d.spaced ≡ true → timer_of timers_line ≡ none
              more_fields q = last_not (last_number 1 (field_line r.at) ∙ rw (td.legal, sym td.spaced ∙ q) refl)

              pub timer_read : (at : ℕ) → d.spaced ≡ false → BreakTaken input d.at at
                  → TimerRead input from (record { preset = p.value; start = s.value; variable = v.value; running = r.value; done = d.value; at = at })
              unfolding timer_by
              timer_read at q b =
                  let l = no_space (field_line r.at) (sym td.spaced ∙ q) in
                  let last : is_number 1 (field_line r.at) ≡ true = last_number 1 (field_line r.at) ∙ rw (td.legal, sym td.spaced ∙ q) refl in
                  let vd : d.value ≡ number_in (field_line r.at) = td.value ∙ ap number_in l.0 in
                  record {
                    is_timer = by_running ∙ (rw (tp.legal, ts.legal, tv.legal, tr.legal, last, timer_by) refl
                        ∙ (λ i. some (record { preset = sym tp.value i; start = sym ts.value i; variable = sym tv.value i; running = sym tr.value i; done = sym vd i })));
                    rest = b.rest (td.after ∙ l.1) ∙ (td.rest ∙ (tr.rest ∙ (tv.rest ∙ (ts.rest ∙ (tp.rest ∙ timer_text_lem)))));
                    within = b.within (td.within (tr.within (tv.within (ts.within (tp.within timer_room)))));
                    onward = omega (arith, tp.onward, ts.onward, tv.onward, tr.onward, td.onward, b.onward);
                  }
