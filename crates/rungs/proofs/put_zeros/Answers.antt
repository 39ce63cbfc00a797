-- `rungs::put_zeros` meets its contract.
use Rattle.std.proofs.Common.{rules, arith, sym, ◌≤◌, ◌≡◌, ◌∙◌, ℕ, replicate}
use Rattle.std.proofs.lemmas.List.{length-replicate, take-replicate}
use Rattle.rungs.proofs.Copies.{sets_start}
use Rattle.rungs.proofs.put_zeros.Goals as goal

pub returns : goal.returns
returns c =
    let zeros : c.fill.new.self ≡ replicate c.min-room.result 0 = search rules in
    let few : c.min-room.result ≤ c.args.count = omega arith in
    sets_start (replicate c.args.count 0) c.args.words.now c.fill.new.self c.min-room.result (omega (arith, length-replicate {A = ℕ} c.args.count 0))
    (zeros ∙ sym (take-replicate c.min-room.result c.args.count 0 few))
