-- What is left out at the start, from numbers. Assumes nothing.
use Rattle.std.specs.Prelude.{ℕ, ◌-◌, cond, List, ltb, get_or}
use Rattle.sets.specs.Set.{minus}
use Rattle.report.specs.Held.{only_lock}
use Rattle.lock_edges.specs.declared.Bases.{Bases}

unfoldable pub start_in : List ℕ → List ℕ → Bases → ℕ → ℕ → ℕ
start_in flow given b all p =
    cond (ltb p b.given) 0
    (cond (ltb p b.flow) (get_or given (p - b.given) 0)
    (cond (ltb p b.other) (get_or flow (p - b.flow) 0) (cond (ltb p b.every) (minus all (only_lock (get_or flow (p - b.other) 0))) all)))
