-- Worked texts: case A of document 01 in the fixed names and in a park's own, read and printed again; texts that break the form, and texts that keep it and are
-- no list. Assumes nothing.
use Rattle.std.specs.Prelude.{ℕ, ◌≡◌, refl, drop, replicate}
use mathlib.Core.List.{List, [], ◌∷◌, flat_map}
use Rattle.questions.specs.Bytes.{bytes, decimal, digits, same_bytes}
use Rattle.questions.specs.Tests.{all, different}
use Rattle.questions.specs.Questions.{ask, first_no, vars_in_range, question1, long_enough, question13}
use Rattle.rungs.specs.Records.{lay, laid, longest}
use Rattle.rungs.specs.Buffers.{Buffers, buffers, as_buffers, needs, written, written_over}
use Rattle.text_grammar.specs.Reader.{map_p, bind, followed, digit_of, digits_from, numeral_of}
use Rattle.list_definitions.specs.Instruction.{ST, NOT, JMP, LD, TON, operand, op_of, operand_number, instr_word, decode_instr, ops, only_not, sort_of, operand_sort, sort_number, same_sort}
use Rattle.list_definitions.specs.Names.{fixed_names, trimmed, name_of, names_from, names_in, is_capital, is_name, is_name_table, fixed_table, question14}
use Rattle.list_definitions.specs.Questions.{operand_in_range, word_in_range, records_laid, list_in_range, question10}
use Rattle.list_definitions.specs.Listing.{operand_text, instr_line, label_line, rung_lines, listing_lines, ended, listing_text}
use Rattle.list_definitions.proofs.Examples.{zeros, park_table}
use Rattle.translation_definitions.specs.TranslateKept.{counts_of, TranslateAnswer, translated, refused, list_written}
use Rattle.reader_definitions.specs.Form.{list_of_rungs}
use Rattle.reader_definitions.specs.Reader.{letters_from, op_named, given, lettered, operand_from, instr_with, instr_named, instruction_from, opens_label, label_from, code_from, rung_from, rungs_from, list_text_of}
use Rattle.reader_definitions.specs.ReadList.{question15, rungs_of, read_questions, read_list}

-- room for 20 instructions and 3 records
room : Buffers
room = buffers (replicate 20 0) (replicate 3 0) (replicate 3 0) (replicate 3 0) (replicate 3 0)

answer : List ℕ → ℕ → List ℕ → TranslateAnswer
answer names vars text = (read_list names vars text room).answer

counts : ℕ → ℕ → ℕ → TranslateAnswer
counts i r l = translated (record { instructions = i; rungs = r; longest = l })

no_with : ℕ → TranslateAnswer
no_with number = refused (record { number = number; place = 0 })

case_a : List ℕ
case_a = bytes "L10:\nLD v0\nST t0\nLD v1\nANDN v2\nOR t0\nST t0\nST v1\nLD t0\nAND v3\nJMPC @10\nL20:\nLDN v3\nST v4\n"

answers : List TranslateAnswer
answers =
    answer fixed_table 5 case_a
    ∷ answer park_table 5 (bytes "L10:\nL v0\nNICHT\nSPRUNG @3\nL20:\nL v3\n")
    ∷ answer park_table 5 case_a
    ∷ answer fixed_table 3 case_a
    ∷ answer fixed_table 0 case_a
    ∷ answer (drop 1 fixed_table) 0 case_a
    ∷ answer fixed_table 5 []
    ∷ answer fixed_table 5 (bytes "LD v0\n")
    ∷ answer fixed_table 5 (bytes "L1:\nLD v0")
    ∷ answer fixed_table 5 (bytes "L1:\nLD v00\n")
    ∷ answer fixed_table 5 (bytes "L65536:\nLD v0\n")
    ∷ answer fixed_table 5 (bytes "L1:\nLD t32\n")
    ∷ answer fixed_table 5 (bytes "L1:\nLD @0\n")
    ∷ answer fixed_table 5 (bytes "L1:\nNOT \n")
    ∷ answer fixed_table 5 (bytes "L1:\nNOT v0\n")
    ∷ answer fixed_table 5 (bytes "L1:\nLD\n")
    ∷ answer fixed_table 5 (bytes "L1:\nTON d65535\n")
    ∷ answer fixed_table 5 (bytes "L1:\nTON d65536\n")
    ∷ answer fixed_table 5 (bytes "L1:\nTON v0\n")
    ∷ answer fixed_table 5 (bytes "L1:\nLD d0\n")
    ∷ answer fixed_table 5 (bytes "L1:\nL2:\nNOT\n")
    ∷ answer fixed_table 5 (bytes "L1:\nNOT\nL2:\n")
    ∷ answer fixed_table 5 (bytes "L1:\nJMP @2\n")
    ∷ answer fixed_table 5 (bytes "L1:\nJMP @1\nL1:\nNOT\nL0:\nNOT\nL65535:\nNOT\n")
    ∷ []

answers_worked : answers ≡
    counts 12 2 10 ∷ counts 4 2 3 ∷ no_with 15 ∷ no_with 15 ∷ no_with 1 ∷ no_with 14 ∷ no_with 15 ∷ no_with 15 ∷ no_with 15 ∷ no_with 15 ∷ no_with 15 ∷ no_with 15 ∷ no_with 15
    ∷ no_with 15 ∷ no_with 15 ∷ no_with 15 ∷ counts 1 1 1 ∷ no_with 15 ∷ no_with 15 ∷ no_with 15 ∷ no_with 10 ∷ no_with 10 ∷ no_with 10 ∷ no_with 13 ∷ []
unfolding answers answer counts no_with case_a room fixed_table park_table zeros bytes fixed_names trimmed flat_map ask first_no vars_in_range question1 long_enough question13
    lay laid longest as_buffers needs written written_over map_p bind followed digit_of digits_from numeral_of operand op_of operand_number instr_word decode_instr ops only_not
    sort_of operand_sort sort_number same_sort operand_in_range word_in_range records_laid list_in_range question10 names_from is_capital is_name same_bytes different is_name_table question14
    list_of_rungs letters_from op_named given lettered operand_from instr_with instr_named instruction_from opens_label label_from code_from rung_from rungs_from list_text_of question15 rungs_of
    counts_of list_written read_questions read_list
answers_worked = refl

-- the list of some rungs, printed in the park's names
printed : List ℕ
printed = listing_text (names_in park_table) 5 (list_of_rungs (record { label = 10; code = LD 0 ∷ NOT ∷ JMP 3 ∷ [] } ∷ record { label = 0; code = ST 36 ∷ TON 3 ∷ [] } ∷ []))

printed_worked : printed ≡ bytes "L10:\nL v0\nNICHT\nSPRUNG @3\nL0:\nS t31\nEV d3\n"
unfolding printed park_table zeros bytes decimal digits flat_map lay operand op_of trimmed name_of operand_text instr_line label_line rung_lines listing_lines ended listing_text names_from list_of_rungs
printed_worked = refl
