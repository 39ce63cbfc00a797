-- What a "yes" to question 10 tells of words and records. Assumes nothing.
use Rattle.std.specs.Prelude.{◌≡◌, refl, ◌&&◌, List, [], ◌∷◌, map, ℕ, zero, suc, ◌≤◌, ◌<◌, T, leb, ltb, length, get_or}
use Rattle.std.proofs.Common.{sym, ap, ◌∙◌, arith, leb→le}
use Rattle.std.proofs.Math.Option.{Option, none, some}
use Rattle.std.proofs.Math.Facts.{and_yes}
use Rattle.questions.specs.Tests.{all}
use Rattle.questions.proofs.Laws.Tests.{all_head, all_tail}
use Rattle.table.specs.State.{table_size}
use Rattle.rungs.specs.Records.{RungRecord, laid, most_records}
use Rattle.list_definitions.specs.Instruction.{Instr, decode_instr, decode_code, code_of}
use Rattle.list_definitions.specs.Questions.{word_in_range, most_instructions, records_laid, list_in_range}
use Rattle.list_definitions.specs.Decoding.{instr_of, Decodes}

word_decodes : (size n w : ℕ) → T (word_in_range size n w) → Decodes w
unfolding word_in_range
word_decodes size n w h = go (decode_instr w) refl
  where
    go : (x : Option Instr) → decode_instr w ≡ x → Decodes w
    go none e = absurd (rw (e, word_in_range) at h)
    go (some i) e = record { instr = i; same = e }

words_decode : (size n : ℕ) (ws : List ℕ) → T (all (word_in_range size n) ws) → (i : ℕ) → i < length ws → Decodes (get_or ws i 0)
words_decode size n [] h i l = absurd (omega arith)
words_decode size n (w ∷ ws) h zero l = word_decodes size n w (all_head (word_in_range size n) w ws h)
words_decode size n (w ∷ ws) h (suc i) l = words_decode size n ws (all_tail (word_in_range size n) w ws h) i (omega arith)

pub instr_of_lem : (w : ℕ) (d : Decodes w) → instr_of w ≡ d.instr
unfolding instr_of
instr_of_lem w d = rw (d.same, instr_of)

code_decodes : (size n : ℕ) (ws : List ℕ) → T (all (word_in_range size n) ws) → decode_code ws ≡ some (map instr_of ws)
unfolding decode_code
code_decodes size n [] h = refl
code_decodes size n (w ∷ ws) h =
    let d = word_decodes size n w (all_head (word_in_range size n) w ws h) in
    rw (instr_of_lem w d, d.same, decode_code) (rw (code_decodes size n ws (all_tail (word_in_range size n) w ws h)))

code_of_words : (size n : ℕ) (ws : List ℕ) → T (all (word_in_range size n) ws) → code_of ws ≡ map instr_of ws
unfolding code_of
code_of_words size n ws h = rw (code_decodes size n ws h, code_of)

pub record InRange (vars : ℕ) (ws : List ℕ) (rs : List RungRecord) : Type 0 where
  pub code_most : length ws ≤ most_instructions
  pub some_record : 1 ≤ length rs
  pub records_most : length rs ≤ most_records
  pub lies : T (laid 0 (length ws) rs)
  pub some_length : T (all (λ r. ltb 0 r.length) rs)
  pub decodes : (i : ℕ) → i < length ws → Decodes (get_or ws i 0)
  pub held : decode_code ws ≡ some (code_of ws)
  pub printed : code_of ws ≡ map instr_of ws

pub list_in_range_lem : (vars : ℕ) (ws : List ℕ) (rs : List RungRecord) → T (list_in_range vars ws rs) → InRange vars ws rs
unfolding list_in_range records_laid
list_in_range_lem vars ws rs h =
    let n : ℕ = length ws in
    let code = leb 1 n && leb n most_instructions in
    let records = leb 1 (length rs) && leb (length rs) most_records in
    let some-each = all (λ (r : RungRecord). ltb 0 r.length) rs in
    let words = all (word_in_range (table_size vars) n) ws in
    let x = and_yes code (records && ((laid 0 n rs && some-each) && words)) h in
    let y = and_yes records ((laid 0 n rs && some-each) && words) x.1 in
    let z = and_yes (laid 0 n rs && some-each) words y.1 in
    let laid_all = and_yes (laid 0 n rs) some-each z.0 in
    let rows = and_yes (leb 1 (length rs)) (leb (length rs) most_records) y.0 in
    record {
      code_most = leb→le n most_instructions (and_yes (leb 1 n) (leb n most_instructions) x.0).1;
      some_record = leb→le 1 (length rs) rows.0;
      records_most = leb→le (length rs) most_records rows.1;
      lies = laid_all.0;
      some_length = laid_all.1;
      decodes = words_decode (table_size vars) n ws z.1;
      held = code_decodes (table_size vars) n ws z.1 ∙ ap (λ is. some is) (sym (code_of_words (table_size vars) n ws z.1));
      printed = code_of_words (table_size vars) n ws z.1;
    }
