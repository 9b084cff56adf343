-- A list of edges that is filled from the front: what one more edge, and one more part, leave in it. Assumes nothing.
use Rattle.std.specs.Prelude.{ℕ, ◌+◌, ◌*◌, ◌≤◌, ◌<◌, ◌≡◌, refl, List, [], ◌∷◌, ◌++◌, length, set, take}
use Rattle.std.proofs.Common.{sym, ap, ap₂, ◌∙◌, add-one, arith, length-append, length-set, take-suc-set, length-take-le}
use Rattle.std.proofs.Math.Nat.{suc_inj}
use Rattle.sets.specs.Least.{Edge, edge_of, edges_of}
use Rattle.sets.proofs.LeastLaws.{edge_packed}
use Rattle.sets.proofs.AppendLaws.{Small, Kind, appended_not}
use Rattle.sets.proofs.AppendLaws as A
use Rattle.lock_edges.specs.ViewEdges.{edge_from}
use Rattle.lock_edges.specs.declared.Origin.{Origin}
use Rattle.lock_edges.specs.declared.list.MetEdges.{MetEdges}

-- the edges that are in it
abbrev pub edges_in : MetEdges → List Edge
edges_in x = edges_of (take x.used x.edges.now) (take x.used x.also.now)

-- it has a places at least, and the first of these are the edges
pub record Holds (a : ℕ) (x : MetEdges) (es : List Edge) : Type 0 where
  pub count : x.used ≡ length es
  pub long : a ≤ length x.edges.now
  pub also_long : a ≤ length x.also.now
  pub is : edges_in x ≡ es

-- it is in the same room
pub record Same (x y : MetEdges) : Type 0 where
  pub edges : y.edges.ghost_name ≡ x.edges.ghost_name
  pub also : y.also.ghost_name ≡ x.also.ghost_name
  pub long : length y.edges.now ≡ length x.edges.now
  pub also_long : length y.also.now ≡ length x.also.now

abbrev pub met_edges : Kind MetEdges
met_edges = record {
  Holds = Holds;
  Same = Same;
  same_none = λ x. record { edges = refl; also = refl; long = refl; also_long = refl };
  same_both = λ x y z p q.
      record { edges = q.edges ∙ p.edges; also = q.also ∙ p.also; long = q.long ∙ p.long; also_long = q.also_long ∙ p.also_long };
}

-- where it held some edges it holds the new ones behind them
abbrev pub Grown : MetEdges → MetEdges → List Edge → Type 0
Grown x y new = A.Appended met_edges x y new

-- ---- one more edge

edges_last : (l m : List ℕ) (v a : ℕ) → length l ≡ length m
    → edges_of (l ++ (v ∷ [])) (m ++ (a ∷ [])) ≡ edges_of l m ++ (record { from = (edge_of v).from; also = a; to = (edge_of v).to } ∷ [])
unfolding edges_of
edges_last [] [] v a e = refl
edges_last [] (y ∷ m) v a e = absurd (omega arith)
edges_last (x ∷ l) [] v a e = absurd (omega arith)
edges_last (x ∷ l) (y ∷ m) v a e =
    ap {B = List Edge} (λ (es : List Edge). record { from = (edge_of x).from; also = y; to = (edge_of x).to } ∷ es) (edges_last l m v a (suc_inj e))

module _ {x y : MetEdges} (o : Origin) (t : ℕ) where
  pub grown_one : y.edges.ghost_name ≡ x.edges.ghost_name → y.also.ghost_name ≡ x.also.ghost_name → y.edges.now ≡ set x.edges.now x.used (o.from * 65536 + t)
      → y.also.now ≡ set x.also.now x.used o.also → y.used ≡ x.used + 1 → x.used < length x.edges.now → x.used < length x.also.now → t < 65536
      → Grown x y (edge_from o t ∷ [])
  grown_one a b e i u p q l =
      let long : length y.edges.now ≡ length x.edges.now = ap length e ∙ length-set x.edges.now x.used (o.from * 65536 + t) in
      let also_long : length y.also.now ≡ length x.also.now = ap length i ∙ length-set x.also.now x.used o.also in
      record {
        same = record { edges = a; also = b; long = long; also_long = also_long };
        then = λ n es h r. record {
          count = omega (arith, u, h.count, length-append es (edge_from o t ∷ []));
          long = omega (arith, long, h.long);
          also_long = omega (arith, also_long, h.also_long);
          is =
              let front : take (x.used + 1) (set x.edges.now x.used (o.from * 65536 + t)) ≡ take x.used x.edges.now ++ ((o.from * 65536 + t) ∷ []) = rw add-one (take-suc-set x.edges.now x.used (o.from * 65536 + t) p) in
              let front' : take (x.used + 1) (set x.also.now x.used o.also) ≡ take x.used x.also.now ++ (o.also ∷ []) = rw add-one (take-suc-set x.also.now x.used o.also q) in
              ap₂ {C = List Edge} edges_of (ap₂ {C = List ℕ} take u e ∙ front) (ap₂ {C = List ℕ} take u i ∙ front')
              ∙ edges_last (take x.used x.edges.now) (take x.used x.also.now) (o.from * 65536 + t) o.also (length-take-le x.used x.edges.now (omega arith) ∙ sym (length-take-le x.used x.also.now (omega arith)))
              ∙ ap₂ {C = List Edge} (λ (l : List Edge) (e : Edge). l ++ (record { from = e.from; also = o.also; to = e.to } ∷ [])) h.is (edge_packed o.from t l);
        };
      }

module _ {x : MetEdges} (o : Origin) (t : ℕ) where
  pub grown_full : length x.edges.now ≤ x.used → Grown x x (edge_from o t ∷ [])
  grown_full p = appended_not (λ a es h l m. omega (arith, h.count, h.long))

  pub grown_also_full : length x.also.now ≤ x.used → Grown x x (edge_from o t ∷ [])
  grown_also_full p = appended_not (λ a es h l m. omega (arith, h.count, h.also_long))

  -- a place does not fit into 16 bits
  pub grown_large : (Small (edge_from o t) → ⊥) → Grown x x (edge_from o t ∷ [])
  grown_large d = appended_not (λ a es h l m. d m)
