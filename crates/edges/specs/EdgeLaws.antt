-- A list of edges that is filled from the front: what one more edge, and one more part, leave in it. Assumes nothing.
use Rattle.std.specs.Prelude.{ℕ, zero, suc, ◌+◌, ◌*◌, ◌≤◌, ◌<◌, ◌≡◌, refl, List, [], ◌∷◌, ◌++◌, map, length, set, take}
use Rattle.std.proofs.Common.{ap, ap₂, ◌∙◌, add-one, arith, length-append, length-set, take-suc-set}
use Rattle.std.proofs.lemmas.List.{map-append}
use Rattle.sets.specs.Least.{Edge, edge_of}
use Rattle.sets.proofs.LeastLaws.{edge_packed}
use Rattle.sets.proofs.AppendLaws.{Small, Kind, appended_not}
use Rattle.sets.proofs.AppendLaws as A
use Rattle.report.specs.Over.{joined_from}
use Rattle.report.proofs.OverLaws.{Within}
use Rattle.edges.specs.Equations.{edge}

-- a list and how many edges are in it
pub record Listed : Type 0 where
  pub edges : List ℕ
  pub count : ℕ

abbrev pub listed : List ℕ → ℕ → Listed
listed edges n = record { edges = edges; count = n }

-- it has a places, and the first of these are the edges
pub record Holds (a : ℕ) (x : Listed) (es : List Edge) : Type 0 where
  pub count : x.count ≡ length es
  pub long : length x.edges ≡ a
  pub is : map edge_of (take x.count x.edges) ≡ es

abbrev pub one_list : Kind Listed
one_list = record {
  Holds = Holds;
  Same = λ x y. length y.edges ≡ length x.edges;
  same_none = λ x. refl;
  same_both = λ x y z p q. q ∙ p;
}

-- where the first n places held some edges, the first n' hold the new ones behind them
abbrev pub Appended : List ℕ → ℕ → List ℕ → ℕ → List Edge → Type 0
Appended edges n edges' n' new = A.Appended one_list (listed edges n) (listed edges' n') new

-- ---- one more edge

module _ (edges : List ℕ) (n f t : ℕ) where
  pub appended_one : n < length edges → t < 65536 → Appended edges n (set edges n (f * 65536 + t)) (n + 1) (edge f t ∷ [])
  appended_one p q = record {
    same = length-set edges n (f * 65536 + t);
    then = λ a es h r. record {
      count = omega (arith, h.count, length-append es (edge f t ∷ []));
      long = length-set edges n (f * 65536 + t) ∙ h.long;
      is =
          let front : take (n + 1) (set edges n (f * 65536 + t)) ≡ take n edges ++ ((f * 65536 + t) ∷ []) =
          rw add-one (take-suc-set edges n (f * 65536 + t) p) in
          ap {B = List Edge} (λ (l : List ℕ). map edge_of l) front
          ∙ map-append edge_of (take n edges) ((f * 65536 + t) ∷ [])
          ∙ ap₂ {C = List Edge} (λ (x : List Edge) (y : Edge). x ++ (y ∷ [])) h.is (edge_packed f t q);
    };
  }

  pub appended_full : length edges ≤ n → Appended edges n edges n (edge f t ∷ [])
  appended_full p = appended_not (λ a es h l m. omega (arith, h.count, h.long))

  -- a place does not fit into 16 bits
  pub appended_large : (Small (edge f t) → ⊥) → Appended edges n edges n (edge f t ∷ [])
  appended_large d = appended_not (λ a es h l m. d m)

-- ---- parts one after the other

-- the parts are the same, so the whole is
pub joined_same : (from n : ℕ) (f g : ℕ → List Edge) → ((i : ℕ) → Within from n i → f i ≡ g i) → joined_from from n f ≡ joined_from from n g
unfolding joined_from
joined_same from zero f g h = refl
joined_same from (suc n) f g h =
    ap₂ {C = List Edge} (λ (a b : List Edge). a ++ b) (h from (record { low = omega arith; high = omega arith }))
    (joined_same (from + 1) n f g (λ i w. h i (record { low = omega (arith, w.low); high = omega (arith, w.high) })))
