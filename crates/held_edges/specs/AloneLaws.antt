-- A statement does one thing: it takes a lock, or gives one up, or calls. Assumes nothing.
use Rattle.std.specs.Prelude.{◌≡◌, refl, ℕ, Option, Some, None}
use Rattle.std.proofs.Common.{sym, ap, ◌∙◌}
use Rattle.table.specs.View.{view, calls}
use Rattle.table.proofs.ViewLaws.{nothing_to, Form, on, read, written, taken, given, pointed, called, started, to, either, back, forms}
use Rattle.table.specs.declared.View.{View}
use Rattle.table.specs.declared.Statement.{Statement}

-- of two references at most one is one
abbrev pub NotBoth : Option ℕ → Option ℕ → Type 0
NotBoth a b = (m n : ℕ) → a ≡ Some m → b ≡ Some n → ⊥

pub record Alone (v : View) : Type 0 where
  pub takes_calls : NotBoth v.takes (calls v)
  pub gives_takes : NotBoth v.gives v.takes
  pub gives_calls : NotBoth v.gives (calls v)

not_first : {a b : Option ℕ} → a ≡ None → NotBoth a b
not_first e m n p q = nothing_to (sym e ∙ p)

not_second : {a b : Option ℕ} → b ≡ None → NotBoth a b
not_second e m n p q = nothing_to (sym e ∙ q)

-- a view that neither takes nor gives
neither : (v : View) → v.takes ≡ None → v.gives ≡ None → Alone v
neither v t g = record { takes_calls = not_first t; gives_takes = not_first g; gives_calls = not_first g }

-- a view that is not one of those two
quiet : {v w : View} → v ≡ w → w.takes ≡ None → w.gives ≡ None → Alone v
quiet {v} p t g = neither v (ap (λ (v : View). v.takes) p ∙ t) (ap (λ (v : View). v.gives) p ∙ g)

pub alone : (σ : Statement) → Alone (view σ)
alone σ = go (forms σ)
  where
    go : Form (view σ) → Alone (view σ)
    go (on p) = quiet p refl refl
    go (read h p) = quiet p refl refl
    go (written h p) = quiet p refl refl
    go (taken h w p) = record { takes_calls = not_second (ap calls p); gives_takes = not_first (ap (λ (v : View). v.gives) p); gives_calls = not_first (ap (λ (v : View). v.gives) p) }
    go (given h p) = record { takes_calls = not_first (ap (λ (v : View). v.takes) p); gives_takes = not_second (ap (λ (v : View). v.takes) p); gives_calls = not_second (ap calls p) }
    go (pointed h g p) = quiet p refl refl
    go (called q a p) = quiet p refl refl
    go (started q a p) = quiet p refl refl
    go (to z p) = quiet p refl refl
    go (either z p) = quiet p refl refl
    go (back p) = quiet p refl refl
