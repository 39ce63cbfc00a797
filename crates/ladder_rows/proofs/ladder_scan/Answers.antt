-- `ladder_rows::ladder_scan` meets its contract: the questions are put to a copy of the row's fields, and the scan goes by the row.
use Rattle.std.specs.Prelude.{Ok}
use Rattle.questions.proofs.Laws.Answers.{err_passed, verdict_refused, verdict_accepted}
use Rattle.table.specs.TimerRecords.{timers_in, number_timers}
use Rattle.table.proofs.Laws.TimerRecords.{whole_timers}
use Rattle.rows.specs.Rows.{records_of}
use Rattle.ladder_definitions.specs.Kept.{Kept}
use Rattle.ladder_scanning.proofs.Laws.Scans.{scan_fits, scan_scans}
use Rattle.ladder.proofs.Scans.{passed_whole, numbers_refused, numbers_scanned}
use Rattle.ladder_rows.proofs.ladder_scan.Goals as goal

pub run-requires : goal.run-requires
run-requires c = scan_fits _ _ _ _ _ (verdict_accepted c.ask.ensures c.in_ok-ask.was)

pub returns-in_err-ask : goal.returns-in_err-ask
returns-in_err-ask c = rw (err_passed c.from_residual.ensures.1) (numbers_refused _ _ _ _ _ _ _ (verdict_refused _ c.ask.ensures c.in_err-ask.was))

pub returns : goal.returns
returns c =
    let k : Kept = record { words = c.args.words.now; records = records_of c.args.row.now } in
    let vars = c.args.vars in
    let t = c.args.table.now in
    let ns = c.args.timers.now in
    let tick = c.args.tick in
    let w = c.args.watchdog in
    let ms = c.run.new.timers in
    let ok = verdict_accepted c.ask.ensures c.in_ok-ask.was in
    numbers_scanned vars k t ns tick w ok (Ok c.run.result) c.run.new.table ms c.run.auto.timers
    (scan_scans vars k t (number_timers ns) w tick ok (Ok c.run.result) c.run.new.table (timers_in ms) (rw (whole_timers ns (passed_whole vars k t ns tick w ok)) c.run.ensures))
