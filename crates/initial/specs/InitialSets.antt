-- The sets that each dataflow equation begins with, over the table's own numbers. What `dataflow` promises cites the report's definitions; these are the
-- same, as the code goes through them. Assumes nothing.
use Rattle.std.specs.Prelude.{ℕ, Bool, true, false, cond, List, ltb, length, get_or, Option}
use Rattle.sets.specs.Set.{union}
use Rattle.table.specs.Table.{Table, routine, statement}
use Rattle.table.specs.View.{view, set_on}
use Rattle.table.specs.declared.View.{View}
use Rattle.table.specs.declared.Statement.{Statement}
use Rattle.report.specs.Over.{union_from, union_at}
use Rattle.report.specs.Layout.{named}
use Rattle.report.specs.Operations.{nexts}
use Rattle.initial.specs.declared.Act.{Act}
use Rattle.initial.specs.declared.Act.TheVariants.{Gives, Reads, Writes}

-- the handle through which a statement gives up a lock, or reads or writes a cell
abbrev pub touched : Act → View → Option ℕ
touched Gives v = v.gives
touched Reads v = v.reads
touched Writes v = v.writes

-- reading, or writing
abbrev pub acts : Bool → Act
acts true = Writes
acts false = Reads

-- the locks that a statement itself may give up, or the cells that it reads or writes
unfoldable pub own_set : Act → List ℕ → Statement → ℕ
own_set act flow σ = set_on (touched act (view σ)) (λ (h : ℕ). get_or flow h 0)

-- those of statement s
abbrev pub own_at : Act → List ℕ → Table → ℕ → ℕ
own_at act flow t s = own_set act flow (statement t s)

-- the union of these over the statements of routine r
unfoldable pub in_routine : Act → List ℕ → Table → ℕ → ℕ
in_routine act flow t r = union_from (routine t r).first (routine t r).count (own_at act flow t)

-- the effect of statement s
unfoldable pub effect_at : Act → List ℕ → List ℕ → Table → ℕ → ℕ
effect_at act flow effect t s =
    union (own_set act flow (statement t s)) (set_on (view (statement t s)).names (λ q. get_or effect (named (statement t s)) 0))

-- the effects of the statements that may come after statement s
unfoldable pub nexts_effect : Act → List ℕ → List ℕ → Table → ℕ → ℕ
nexts_effect act flow effect t s = union_at (nexts s (statement t s)) (effect_at act flow effect t)

-- what the future at place p begins with: nothing behind the last statement
unfoldable pub future_initial : Act → List ℕ → List ℕ → Table → ℕ → ℕ
future_initial act flow effect t p = cond (ltb p (length t.statements)) (nexts_effect act flow effect t p) 0
