-- A pass from the last edge to the first is one from the first to the last over the edges turned round. So it takes nothing out, and passes until nothing
-- changes come to the least list, whatever the order. Assumes nothing.
use Rattle.std.specs.Prelude.{◌≡◌, refl, true, ℕ, ◌<◌, length, get_or}
use Rattle.std.proofs.Common.{sym, ap, ◌∙◌, subst}
use Rattle.std.proofs.Math.Path.{fun_ext}
use mathlib.Core.List.Memᴰ
use mathlib.Core.List.{List, [], ◌∷◌, ◌++◌, reverse, reverse-cons, reverse-reverse, Memᴰ}
use Rattle.sets.specs.Set.{has}
use Rattle.sets.proofs.SetLaws.{in_both}
use Rattle.sets.proofs.Rules.{put_puts}
use Rattle.sets.specs.Least.{SetList, Inside, Edge, along, pass_edges, least, settled, Closed}
use Rattle.sets.proofs.LeastLaws.{along_length, pass_sets, pass_grows, pass_monotone, closed_still, least_sets, least_holds_start, least_closed, least_inside, least_is}
use Rattle.round_robin.specs.RoundRobin.{pass_down}

-- ---- an edge

-- what is in both sets that it comes from is in the one that it leads to
pub along_puts : (e : Edge) (s : List ℕ) → e.to < length s → (x : ℕ) → has (get_or s e.from 0) x ≡ true → has (get_or s e.also 0) x ≡ true
    → has (get_or (along e s) e.to 0) x ≡ true
unfolding along
along_puts e s l x a b = put_puts e.to _ s l x (in_both _ _ x a b)

-- ---- a pass

pub down_append : (a b : List Edge) (s : List ℕ) → pass_down (a ++ b) s ≡ pass_down a (pass_down b s)
unfolding pass_down
down_append [] b s = refl
down_append (e ∷ a) b s = ap (along e) (down_append a b s)

up_append : (a b : List Edge) (s : List ℕ) → pass_edges (a ++ b) s ≡ pass_edges b (pass_edges a s)
unfolding pass_edges
up_append [] b s = refl
up_append (e ∷ a) b s = up_append a b (along e s)

pub down_length : (es : List Edge) (s : List ℕ) → length (pass_down es s) ≡ length s
unfolding pass_down
down_length [] s = refl
down_length (e ∷ es) s = along_length e (pass_down es s) ∙ down_length es s

-- it is a pass up over the edges turned round
turned : (es : List Edge) (s : List ℕ) → pass_down es s ≡ pass_edges (reverse es) s
unfolding pass_down pass_edges
turned [] s = refl
turned (e ∷ es) s = ap (along e) (turned es s) ∙ sym (up_append (reverse es) (e ∷ []) s) ∙ ap (λ (l : List Edge). pass_edges l s) (sym (reverse-cons e es))

pub down_sets : (n : ℕ) (es : List Edge) (s : List ℕ) → SetList n s → SetList n (pass_down es s)
down_sets n es s h = subst (SetList n) (sym (turned es s)) (pass_sets n (reverse es) s h)

pub down_grows : (es : List Edge) (s : List ℕ) → Inside s (pass_down es s)
down_grows es s = subst (Inside s) (sym (turned es s)) (pass_grows (reverse es) s)

-- ---- edges turned round

turned_in : (es : List Edge) (e : Edge) → Memᴰ e es → Memᴰ e (reverse es)
turned_in [] e m = m
turned_in (d ∷ es) e m = subst (Memᴰ e) (sym (reverse-cons d es)) (go (turned_in es e) m)
  where
    go : (Memᴰ e es → Memᴰ e (reverse es)) → Memᴰ e (d ∷ es) → Memᴰ e (reverse es ++ (d ∷ []))
    go ih (Memᴰ.head q) = Memᴰ.append_right (reverse es) (Memᴰ.head q)
    go ih (Memᴰ.tail k) = Memᴰ.append_left (d ∷ []) (ih k)

turned_back : (es : List Edge) (e : Edge) → Memᴰ e (reverse es) → Memᴰ e es
turned_back es e m = subst (Memᴰ e) (reverse-reverse es) (turned_in (reverse es) e m)

closed_turned : (es : List Edge) (s : List ℕ) → Closed es s → Closed (reverse es) s
closed_turned es s c = record { edge = λ e m. c.edge e (turned_back es e m) }

-- where every edge has nothing to put, a pass changes nothing
pub closed_down : (es : List Edge) (s : List ℕ) → Closed es s → pass_down es s ≡ s
closed_down es s c = turned es s ∙ closed_still (reverse es) s (closed_turned es s c)

-- what is inside a closed list stays inside it
pub down_inside : (es : List Edge) (s r : List ℕ) → length s ≡ length r → Closed es r → Inside s r → Inside (pass_down es s) r
down_inside es s r l c a =
    subst (λ (x : List ℕ). Inside x r) (sym (turned es s)) (subst (Inside (pass_edges (reverse es) s)) (closed_still (reverse es) r (closed_turned es r c)) (pass_monotone (reverse es) s r l a))

-- ---- passes until nothing changes

-- they come to the least list, whatever the order
pub settled_down : (n : ℕ) (es : List Edge) (s : List ℕ) → SetList n s → settled (pass_down es) s ≡ least es s
unfolding least
settled_down n es s h =
    ap (λ (pass : List ℕ → List ℕ). settled pass s) (fun_ext (turned es))
    ∙ least_is n es s h (least (reverse es) s) (least_sets n (reverse es) s h) (least_holds_start n (reverse es) s h)
    (least_inside n (reverse es) s h (least es s) (least_sets n es s h) (least_holds_start n es s h) (closed_turned es (least es s) (least_closed n es s h)))
    (record { edge = λ e m. (least_closed n (reverse es) s h).edge e (turned_in es e m) })
