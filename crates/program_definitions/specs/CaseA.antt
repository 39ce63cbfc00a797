-- Document 01's case A, through the programs' own definitions: "From 5, LF, case A". Assumes nothing.
use Rattle.std.specs.Prelude.{◌≡◌, refl}
use Rattle.std.proofs.Math.Bool.{xor}
use mathlib.Core.List.{zip_with, flat_map}
use Rattle.questions.specs.Tests.{different, first_failed}
use Rattle.questions.specs.Bytes.{bytes, decimal, digits, same_bytes}
use Rattle.questions.specs.Questions.{ask, ask_each, first_no, vars_in_range, question1, question2, question12, long_enough, question13}
use Rattle.table.specs.State.{value_at, value, written_at, turns, write}
use Rattle.table.specs.Questions.{table_in_range, question11, timers_in_range, question16}
use Rattle.table.specs.TimerRecords.{timer_numbers, timers_in, whole, number_timers}
use Rattle.rungs.specs.Records.{laid, lay, search, present, start_of, is_start, enter, longest, fields_of, row_of}
use Rattle.rungs.specs.Buffers.{as_buffers, needs, written, written_over, written_words, written_records}
use Rattle.ladder_definitions.specs.Tree.{front_all, rear_all, rung_all, input_variable, output_names, number}
use Rattle.ladder_definitions.specs.Meaning.{scan_ladder, scan_from, run_rung, run_rear, run_output, work_front, work_input, jump_if, unless_jumped, from, follow, left}
use Rattle.ladder_definitions.specs.Kept.{input_kind, output_kind, input_word, output_word, front_words, rear_words, rung_words, encode, put_input, put_front, put_output, put_rear_and, put_rear_or, kinds, decode_words, one_rung, decode_rung, decode_from, decode}
use Rattle.ladder_definitions.specs.Questions.{timers_known, output_timed, named_timed, question17, ladder_of, holds_ladder, question4, sizes_in_range, question5, input_below, output_below, question6, new_labels, question7, output_leads, question8, join_scratch, front_scratch, rear_scratch, rung_scratch, scratch_in_range, question9, named_below, named_leads, form_questions, ladder_questions, ladder_answer}
use Rattle.text_grammar.specs.Reader.{map_p, bind, followed, digit_of, digits_from, numeral_of, chain, term_by, front_by, factor_by, factor_of, term_of, front_of, opens_factor, branch_by, rear_by, output_at, end_by, end_of, rear_of, line_of, lines_of, text_of}
use Rattle.text_grammar.specs.Questions.{question3}
use Rattle.text_definitions.specs.Read.{read_text, written_kept, text_ladder}
use Rattle.list_definitions.specs.Instruction.{operand, op_of, operand_number, only_not, ops, instr_word, decode_instr, decode_code, code_of}
use Rattle.list_definitions.specs.Machine.{scan_list, scan_machine, begin, fresh, step, count, does, halted}
use Rattle.list_definitions.specs.Questions.{operand_in_range, word_in_range, records_laid, list_in_range, question10}
use Rattle.list_definitions.specs.ListScan.{list_of}
use Rattle.list_definitions.specs.Names.{fixed_names, trimmed, name_of, names_from, fixed_table, is_capital, is_name, is_name_table, question14}
use Rattle.list_definitions.specs.Listing.{listing, operand_text, instr_line, label_line, rung_lines, listing_lines, ended, listing_text}
use Rattle.translation_definitions.specs.Translate.{F, R, join, output_code, rung_code, list_records, translate}
use Rattle.translation_definitions.specs.TranslateKept.{counts_of, list_written, translate_kept}
use Rattle.ladder_definitions.specs.LadderScan.{scan_questions}
use Rattle.translation_definitions.specs.BothScans.{copy_question, both_questions, both_scans, instruction_watchdog, paired_watchdog}
use Rattle.noninterference.specs.Contacts.{front_contacts, rear_contacts, rung_contacts, ladder_contacts, among, left_out, unread}
use Rattle.program_definitions.specs.Lines.{first_line, text_after, line_number, is_binary_digit, table_of}
use Rattle.program_definitions.specs.TimerLines.{now_taken, now_of, timers_taken, timers_from, timer_of, before_space, after_space, is_number, is_digit, digits_after}
use Rattle.program_definitions.specs.Outcome.{output_of}
use Rattle.program_definitions.specs.Printout.{count_line, list_printed, kept_printed, text_printed, outcome, output}
use Rattle.program_definitions.specs.Scanout.{end_word, scan_count_lines, end_lines, entered_line, entered_lines, changed_line, changed_lines, variable_names, unread_line, alike_if, verdict, verdict_line, timer_lines, report_of, report_lines, rest_scanned, kept_scanned, text_scanned, outcome as scan_outcome, output as scan_output}

pub A_printed : output (bytes "5\n10:c0|c1&n2>o1|c3&j20\n20:n3>o4\n")
    ≡ bytes "L10:\nLD v0\nST t0\nLD v1\nANDN v2\nOR t0\nST t0\nST v1\nLD t0\nAND v3\nJMPC @10\nL20:\nLDN v3\nST v4\nrungs 2 instructions 12 longest 10\n"
unfolding output outcome text_printed kept_printed list_printed count_line output_of first_line text_after line_number bytes decimal digits
    first_failed ask ask_each first_no vars_in_range question1 question2 question3 question4 question5 question6 question7 question8 question9 question10 question13 long_enough
    laid lay search present start_of longest fields_of row_of as_buffers needs written written_over written_words written_records zip_with flat_map
    front_all rear_all rung_all input_kind input_variable input_word output_kind output_names number output_word front_words rear_words rung_words encode put_input put_front put_output put_rear_and put_rear_or
    kinds decode_words one_rung decode_rung decode_from decode ladder_of holds_ladder sizes_in_range input_below output_below new_labels output_leads join_scratch front_scratch rear_scratch rung_scratch
    scratch_in_range named_below named_leads form_questions ladder_questions ladder_answer
    map_p bind followed digit_of digits_from numeral_of chain term_by front_by factor_by factor_of term_of front_of opens_factor branch_by rear_by output_at end_by end_of rear_of line_of lines_of text_of
    read_text written_kept text_ladder operand op_of operand_number only_not ops instr_word decode_instr decode_code code_of operand_in_range word_in_range records_laid list_in_range list_of
    listing fixed_table names_from question14 is_name_table is_name is_capital different same_bytes fixed_names trimmed name_of operand_text instr_line label_line rung_lines listing_lines ended listing_text F R join output_code rung_code list_records translate counts_of list_written translate_kept
A_printed = refl

-- case A with v0 true and a rung watchdog of 2, as README shows it
pub A_scanned : scan_output (bytes "5\n2\n10000\n10:c0|c1&n2>o1|c3&j20\n20:n3>o4\n")
    ≡ bytes "scan ladder list\nend Ended Ended\nrungs 2 2\ninstructions - 12\nmoved 2 2\nL10 - 1\nL20 - 1\nv1 0>1 0>1\nv4 0>1 0>1\nunread v4\nalike\n"
unfolding scan_output scan_outcome rest_scanned now_taken now_of timers_taken timers_from timer_of before_space after_space is_number is_digit digits_after timer_numbers timers_in whole number_timers
    timers_in_range question16 different timers_known output_timed named_timed question17 timer_lines text_scanned kept_scanned report_lines report_of end_lines scan_count_lines end_word entered_lines entered_line changed_lines changed_line
    unread left_out among ladder_contacts rung_contacts front_contacts rear_contacts unread_line variable_names verdict alike_if same_bytes verdict_line
    output_of first_line text_after line_number is_binary_digit table_of bytes decimal digits copy_question scan_questions both_questions both_scans instruction_watchdog paired_watchdog
    question11 question12 table_in_range value_at value written_at turns write xor is_start enter
    scan_ladder scan_from run_rung run_rear run_output work_front work_input jump_if unless_jumped from follow left scan_list scan_machine begin fresh step count does halted
    first_failed ask ask_each first_no vars_in_range question1 question2 question3 question4 question5 question6 question7 question8 question9 question10 question13 long_enough
    laid lay search present start_of longest fields_of row_of as_buffers needs written written_over written_words written_records zip_with flat_map
    front_all rear_all rung_all input_kind input_variable input_word output_kind output_names number output_word front_words rear_words rung_words encode put_input put_front put_output put_rear_and put_rear_or
    kinds decode_words one_rung decode_rung decode_from decode ladder_of holds_ladder sizes_in_range input_below output_below new_labels output_leads join_scratch front_scratch rear_scratch rung_scratch
    scratch_in_range named_below named_leads form_questions ladder_questions ladder_answer
    map_p bind followed digit_of digits_from numeral_of chain term_by front_by factor_by factor_of term_of front_of opens_factor branch_by rear_by output_at end_by end_of rear_of line_of lines_of text_of
    read_text written_kept text_ladder operand op_of operand_number only_not ops instr_word decode_instr decode_code code_of operand_in_range word_in_range records_laid list_in_range list_of
    F R join output_code rung_code list_records translate counts_of list_written translate_kept
A_scanned = refl
