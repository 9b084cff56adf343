-- What a statement is to the findings, by the view of its line. Assumes nothing.
use Rattle.std.specs.Prelude.{◌≡◌, Bool, false, not, ◌&&◌, List, ℕ, ◌+◌, ℤ, Option, Some, None}
use Rattle.std.proofs.Math.Path.{sym, ap, subst}
use Rattle.std.proofs.Common.{◌∙◌}
use Rattle.std.proofs.Math.ListN.{get_or}
use Rattle.sets.specs.Set.{one, subset, is_single}
use Rattle.table.specs.Fields.{field}
use Rattle.table.specs.Header.{statement_line}
use Rattle.table.specs.Table.{statement_in, statement_of}
use Rattle.table.proofs.OperationLaws.{view_line}
use Rattle.table.specs.View.{view, set_on, test_on, starts, accesses}
use Rattle.table.proofs.ViewLaws.{starts_names, set_is}
use Rattle.table.specs.declared.Statement.{Statement}
use Rattle.table.specs.declared.View.{View}
use Rattle.report.specs.Layout.{named}
use Rattle.report.specs.Operations.{accessed}
use Rattle.report.specs.Findings.{clash, stray_by}
use Rattle.findings.specs.Steps.{own_by, shared_by, started_by}

-- `f` are the numbers that a program holds, and `g` those that its contracts speak of
pub seen : {f g : List ℤ} → f ≡ g → (s : ℕ) → {line : ℕ} → line ≡ statement_line g s → {v : View} → v ≡ view (statement_in f line (field f line 1)) → v ≡ view (statement_of g s)
seen {f} {g} e s {line} at {v} is = view_line g s at (subst (λ (k : List ℤ). v ≡ view (statement_in k line (field k line 1))) e is)

module _ (f : List ℤ) (s : ℕ) {v : View} (here : v ≡ view (statement_of f s)) where
  abbrev σ : Statement
  σ = statement_of f s

  -- READ and WRITE
  pub own_is : (flow : List ℕ) (w : Bool) {r : Option ℕ} → r ≡ accesses w v → own_by f flow w s ≡ set_on r (λ h. get_or flow h 0)
  unfolding own_by accessed
  own_is flow w p = ap {B = ℕ} (λ r. set_on r (λ h. get_or flow h 0)) (ap (accesses w) (sym here) ∙ sym p)

  -- START
  module _ (reads writes later : List ℕ) (half : ℕ) where
    abbrev shares : ℕ → ℕ
    shares q = clash (get_or reads q 0) (get_or writes q 0) (get_or later s 0) (get_or later (half + s) 0)

    pub start_shares : (q : ℕ) → starts v ≡ Some q → shared_by f reads writes later half s ≡ shares q
    unfolding shared_by named
    start_shares q at =
        let names : starts (view σ) ≡ Some q = ap starts (sym here) ∙ at in
        set_is (starts (view σ)) (λ r. shares (named σ)) names ∙ ap shares (set_is (view σ).names (λ r. r) (starts_names (view σ) names))

    -- no START
    pub other_shares : starts v ≡ None → shared_by f reads writes later half s ≡ 0
    unfolding shared_by
    other_shares at = ap {B = ℕ} (λ r. set_on r (λ q. shares (named σ))) (ap starts (sym here) ∙ at)

  pub started_is : {r : Option ℕ} → r ≡ starts v → set_on r one ≡ started_by f s
  unfolding started_by
  started_is p = ap {B = ℕ} (λ r. set_on r one) (p ∙ ap starts here)

  -- GIVE
  module _ (flow : List ℕ) (held : ℕ) where
    abbrev strays : ℕ → Bool
    strays h = not (is_single (get_or flow h 0) && subset (get_or flow h 0) held)

    pub give_strays : (h : ℕ) → v.gives ≡ Some h → stray_by (λ h. get_or flow h 0) held σ ≡ strays h
    unfolding stray_by
    give_strays h at = ap {B = Bool} (λ r. test_on r strays) (ap (λ v. v.gives) (sym here) ∙ at)

    -- no GIVE
    pub other_strays : v.gives ≡ None → stray_by (λ h. get_or flow h 0) held σ ≡ false
    unfolding stray_by
    other_strays at = ap {B = Bool} (λ r. test_on r strays) (ap (λ v. v.gives) (sym here) ∙ at)
