-- Edges that code appends to lists which it fills from the front, whatever the lists: what one more part leaves in them. Assumes nothing.
use Rattle.std.specs.Prelude.{◌≡◌, refl, ℕ, ◌+◌, ◌≤◌, ◌<◌, length}
use Rattle.std.proofs.Common.{sym, subst, ⊎_elim, arith, length-append}
use mathlib.Core.List.Memᴰ
use mathlib.Core.List.{List, [], ◌∷◌, ◌++◌, Memᴰ, append-nil, append_assoc}
use Rattle.sets.specs.Least.{Edge}

-- the places of an edge fit into 16 bits each
pub record Small (e : Edge) : Type 0 where
  pub from : e.from < 65536
  pub also : e.also < 65536
  pub to : e.to < 65536

-- a places are room for the edges
pub record Room (a : ℕ) (es : List Edge) : Type 0 where
  pub room : length es ≤ a
  pub small : (e : Edge) → Memᴰ e es → Small e

-- how edges stand in lists: S is the lists with the number of edges in them
pub record Kind (S : Type 0) : Type 1 where
  -- the lists have a places, and the first of these are the edges
  pub Holds : ℕ → S → List Edge → Type 0
  -- the lists keep their lengths
  pub Same : S → S → Type 0
  pub same_none : (x : S) → Same x x
  pub same_both : (x y z : S) → Same x y → Same y z → Same x z

-- the lists keep their lengths, and where they held some edges they hold the new ones behind them, if there is room for all
pub record Appended {S : Type 0} (k : Kind S) (x y : S) (new : List Edge) : Type 0 where
  pub same : k.Same x y
  pub then : (a : ℕ) (es : List Edge) → k.Holds a x es → Room a (es ++ new) → k.Holds a y (es ++ new)

pub room_none : {a : ℕ} → Room a []
room_none = record { room = omega arith; small = λ e m. elim m [ ] }

pub room_one : (a : ℕ) (e : Edge) → Small e → Room (a + 1) (e ∷ [])
room_one a e s = record { room = omega arith; small = λ d m. subst Small (sym (Memᴰ.eq_of_singleton m)) s }

pub room_both : {m n : ℕ} (a b : List Edge) → Room m a → Room n b → Room (m + n) (a ++ b)
room_both a b p q = record { room = omega (arith, length-append a b, p.room, q.room); small = λ e m. ⊎_elim (p.small e) (q.small e) (Memᴰ.append_cases a m) }

pub room_more : {m : ℕ} (n : ℕ) {a : List Edge} → m ≤ n → Room m a → Room n a
room_more n h p = record { room = omega (arith, p.room); small = p.small }

pub room_left : (a : ℕ) (es new : List Edge) → Room a (es ++ new) → Room a es
room_left a es new f = record { room = omega (arith, f.room, length-append es new); small = λ e m. f.small e (Memᴰ.append_left new m) }

module _ {S : Type 0} {k : Kind S} where
  pub appended_same : {x y : S} (a b : List Edge) → a ≡ b → Appended k x y a → Appended k x y b
  appended_same {x} {y} a b e h = subst (Appended k x y) e h

  pub appended_none : {x : S} → Appended k x x []
  appended_none {x} = record { same = k.same_none x; then = λ a es h f. subst (k.Holds a x) (sym (append-nil es)) h }

  pub appended_both : {x y z : S} {a b : List Edge} → Appended k x y a → Appended k y z b → Appended k x z (a ++ b)
  appended_both {x} {y} {z} {a} {b} p q = record {
    same = k.same_both x y z p.same q.same;
    then = λ c es h f.
        let g : Room c ((es ++ a) ++ b) = subst (Room c) (sym (append_assoc es a b)) f in
        subst (k.Holds c z) (append_assoc es a b) (q.then c (es ++ a) (p.then c es h (room_left c (es ++ a) b g)) g);
  }

  -- where an edge is left out, there was no room for it
  pub appended_not : {x : S} {e : Edge} → ((a : ℕ) (es : List Edge) → k.Holds a x es → length es < a → Small e → ⊥) → Appended k x x (e ∷ [])
  appended_not {x} {e} d = record {
    same = k.same_none x;
    then = λ a es h f.
        let one : length (e ∷ []) ≡ 1 = refl in
        absurd (d a es h (omega (arith, f.room, length-append es (e ∷ []))) (f.small e (Memᴰ.append_right es (Memᴰ.head refl))));
  }
