-- Laws of the connectives over a reference, and each attribute of a statement by the number of its operation. Assumes nothing.
use Rattle.std.specs.Prelude.{◌≡◌, refl, Bool, true, false, cond, not, ◌&&◌, ◌||◌, ◌⊎◌, ℕ, zero, suc, ◌^◌, ◌<◌, eqb, ltb, ℤ, Option, Some, None}
use Rattle.std.proofs.Common.{sym, ◌∙◌, ap, inl, inr, arith, ne_eqb, lt-ltb, le-ltb, eqb-true}
use mathlib.Core.List.{List, map, Memᴰ}
use Rattle.sets.specs.Set.{has}
use Rattle.sets.proofs.SetLaws.{has_empty}
use Rattle.table.specs.Fields.{field}
use Rattle.table.specs.Table.{statement_in}
use Rattle.table.specs.View.{view, On, on_or, set_on, list_on, test_on, when, calls, starts, takes_in, takes_to_read, taking, in_mode, idle, through, pointing, naming, going}
use Rattle.table.specs.declared.Arguments.{Arguments}
use Rattle.table.specs.declared.View.{View}
use Rattle.table.specs.declared.Statement.{Statement}
use Rattle.table.specs.declared.Statement.TheVariants.{Read, Write, Set, Add, Take, Give, Point, Call, Start, Jump, JumpZero, Return, TakeRead}
use Rattle.table.specs.ViewLaws.{arguments_if, first_if, second_if}

-- ---- references

pub nothing_to {ℓ} : {C : Type ℓ} {n : ℕ} → None ≡ Some n → C
nothing_to e = let z : ◌≡◌ {A = ℕ} 0 1 = cc in absurd (omega arith)

never {ℓ} : {C : Type ℓ} → false ≡ true → C
never e = let z : ◌≡◌ {A = ℕ} 0 1 = cc in absurd (omega arith)

to_same : {m n : ℕ} → Some m ≡ Some n → m ≡ n
to_same e = cc

-- a reference refers to one thing
pub one_reference : (r : Option ℕ) {m n : ℕ} → r ≡ Some m → r ≡ Some n → m ≡ n
one_reference r p q = to_same (sym p ∙ q)

-- a reference by a test
pub to_if : (b : Bool) (x : ℕ) {n : ℕ} → cond b (Some x) None ≡ Some n → (b ≡ true) × (x ≡ n)
to_if true x e = (refl, to_same e)
to_if false x e = nothing_to e

-- what is CALLed or STARTed is named
module _ (v : View) {q : ℕ} where
  pub calls_names : calls v ≡ Some q → v.names ≡ Some q
  calls_names = go v.starting
    where
      go : (b : Bool) → cond b None v.names ≡ Some q → v.names ≡ Some q
      go true e = nothing_to e
      go false e = e

  pub starts_names : starts v ≡ Some q → v.names ≡ Some q
  starts_names = go v.starting
    where
      go : (b : Bool) → cond b v.names None ≡ Some q → v.names ≡ Some q
      go true e = e
      go false e = nothing_to e

-- what is taken in one way is taken
pub taken_takes : (mode : Bool) (v : View) {h : ℕ} → takes_in mode v ≡ Some h → v.takes ≡ Some h
taken_takes true v = go v.writing
  where
    go : (b : Bool) {h : ℕ} → cond b v.takes None ≡ Some h → v.takes ≡ Some h
    go true e = e
    go false e = nothing_to e
taken_takes false v = λ e. e

-- what holds of all that f says, and of d, holds of what is said of a reference
pub on_or_lem : {A : Type 0} (P : A → Type 0) (r : Option ℕ) (f : ℕ → A) (d : A) → ((n : ℕ) → r ≡ Some n → P (f n)) → P d → P (on_or r f d)
on_or_lem P (Some n) f d h e = h n refl
on_or_lem P None f d h e = e

-- what is said of the number that is referred to
pub on_number : {A : Type 0} (r : Option ℕ) (g : ℕ → A) (d : A) → on_or r (λ q. g (set_on r (λ n. n))) d ≡ on_or r g d
on_number (Some n) g d = refl
on_number None g d = refl

-- so of a routine that is CALLed, whose number is the one that is named
pub on_called : {A : Type 0} (v : View) (g : ℕ → A) (d : A) → on_or (calls v) (λ q. g (set_on v.names (λ n. n))) d ≡ on_or (calls v) g d
on_called v g d = go v.starting
  where
    go : (b : Bool) → on_or (cond b None v.names) (λ q. g (set_on v.names (λ n. n))) d ≡ on_or (cond b None v.names) g d
    go true = refl
    go false = on_number v.names g d

-- ---- the set, list and test of a reference

module _ (r : Option ℕ) (f : ℕ → ℕ) where
  pub set_is : {n : ℕ} → r ≡ Some n → set_on r f ≡ f n
  set_is e = rw e

  pub set_has : {n : ℕ} (x : ℕ) → r ≡ Some n → has (f n) x ≡ true → has (set_on r f) x ≡ true
  set_has x e h = rw e h

pub set_from : (r : Option ℕ) (f : ℕ → ℕ) (x : ℕ) → has (set_on r f) x ≡ true → On r (λ n. has (f n) x ≡ true)
set_from (Some n) f x h = (n, refl, h)
set_from None f x h = never (sym (has_empty x) ∙ h)

pub set_below : (r : Option ℕ) (f : ℕ → ℕ) → ((n : ℕ) → f n < 2 ^ 64) → set_on r f < 2 ^ 64
set_below r f b = on_or_lem (λ (s : ℕ). s < 2 ^ 64) r f 0 (λ n e. b n) (omega arith)

module _ {A : Type 0} where
  pub list_has : (r : Option ℕ) (f : ℕ → List A) {n : ℕ} (x : A) → r ≡ Some n → Memᴰ x (f n) → Memᴰ x (list_on r f)
  list_has r f x e m = rw e m

  pub list_from : (r : Option ℕ) (f : ℕ → List A) (x : A) → Memᴰ x (list_on r f) → On r (λ n. Memᴰ x (f n))
  list_from (Some n) f x m = (n, refl, m)
  list_from None f x m = elim m [ ]

  pub list_same : (r : Option ℕ) (f g : ℕ → List A) → ((n : ℕ) → f n ≡ g n) → list_on r f ≡ list_on r g
  list_same (Some n) f g e = e n
  list_same None f g e = refl

  pub list_map : {B : Type 0} (h : A → B) (r : Option ℕ) (f : ℕ → List A) → map h (list_on r f) ≡ list_on r (λ n. map h (f n))
  list_map h (Some n) f = refl
  list_map h None f = refl

  pub when_map : {B : Type 0} (h : A → B) (b : Bool) (l : List A) → map h (when b l) ≡ when b (map h l)
  when_map h true l = refl
  when_map h false l = refl

  pub when_has : (b : Bool) (l : List A) (x : A) → b ≡ true → Memᴰ x l → Memᴰ x (when b l)
  when_has b l x e m = rw e m

  pub when_from : (b : Bool) (l : List A) (x : A) → Memᴰ x (when b l) → (b ≡ true) × Memᴰ x l
  when_from true l x m = (refl, m)
  when_from false l x m = elim m [ ]

pub test_is : (r : Option ℕ) (f : ℕ → Bool) {n : ℕ} → r ≡ Some n → test_on r f ≡ f n
test_is r f e = rw e

-- ---- a statement does one thing: the one law that attributes do not give

-- the view has one of these forms
pub data Form (v : View) : Type 0 where
  on : v ≡ idle → Form v
  read : (h : ℕ) → v ≡ through (Some h) None None false None → Form v
  written : (h : ℕ) → v ≡ through None (Some h) None false None → Form v
  taken : (h : ℕ) (w : Bool) → v ≡ through None None (Some h) w None → Form v
  given : (h : ℕ) → v ≡ through None None None false (Some h) → Form v
  pointed : (h g : ℕ) → v ≡ pointing (Some h) g → Form v
  called : (q : ℕ) (a : Arguments) → v ≡ naming (Some q) false a → Form v
  started : (q : ℕ) (a : Arguments) → v ≡ naming (Some q) true a → Form v
  to : (z : ℕ) → v ≡ going false false (Some z) → Form v
  either : (z : ℕ) → v ≡ going true false (Some z) → Form v
  back : v ≡ going false true None → Form v

pub forms : (σ : Statement) → Form (view σ)
forms (Read h) = read h.number refl
forms (Write h) = written h.number refl
forms (Set n) = on refl
forms (Add n) = on refl
forms (Take h) = taken h.number true refl
forms (Give h) = given h.number refl
forms (Point h g) = pointed h.number g.number refl
forms (Call q a) = called q a refl
forms (Start q a) = started q a refl
forms (Jump s) = to s.statement refl
forms (JumpZero s) = either s.statement refl
forms Return = back refl
forms (TakeRead h) = taken h.number false refl

-- a WRITE reads nothing and gives no lock up
pub write_alone : (σ : Statement) {x : ℕ} → (view σ).writes ≡ Some x → ((view σ).reads ≡ None) × ((view σ).gives ≡ None)
write_alone σ {x} = go (forms σ)
  where
    none : {v : View} → view σ ≡ v → v.writes ≡ None → (view σ).writes ≡ Some x → ((view σ).reads ≡ None) × ((view σ).gives ≡ None)
    none p n e = nothing_to (sym (ap (λ (v : View). v.writes) p ∙ n) ∙ e)

    go : Form (view σ) → (view σ).writes ≡ Some x → ((view σ).reads ≡ None) × ((view σ).gives ≡ None)
    go (on p) = none p refl
    go (read h p) = none p refl
    go (written h p) = λ e. (ap (λ (v : View). v.reads) p, ap (λ (v : View). v.gives) p)
    go (taken h w p) = none p refl
    go (given h p) = none p refl
    go (pointed h g p) = none p refl
    go (called q a p) = none p refl
    go (started q a p) = none p refl
    go (to z p) = none p refl
    go (either z p) = none p refl
    go (back p) = none p refl

pub points_or_names : (σ : Statement) → ((view σ).points ≡ None) ⊎ ((view σ).names ≡ None)
points_or_names σ = go (forms σ)
  where
    go : Form (view σ) → ((view σ).points ≡ None) ⊎ ((view σ).names ≡ None)
    go (on p) = inl (ap (λ (v : View). v.points) p)
    go (read h p) = inl (ap (λ (v : View). v.points) p)
    go (written h p) = inl (ap (λ (v : View). v.points) p)
    go (taken h w p) = inl (ap (λ (v : View). v.points) p)
    go (given h p) = inl (ap (λ (v : View). v.points) p)
    go (pointed h g p) = inr (ap (λ (v : View). v.names) p)
    go (called q a p) = inl (ap (λ (v : View). v.points) p)
    go (started q a p) = inl (ap (λ (v : View). v.points) p)
    go (to z p) = inl (ap (λ (v : View). v.points) p)
    go (either z p) = inl (ap (λ (v : View). v.points) p)
    go (back p) = inl (ap (λ (v : View). v.points) p)

-- ---- each attribute, by the number of the operation: 1 to 11 and 13, and RETURN for every other

-- the operation is one of 1 to 11, or 13: it does not close its frame
abbrev pub keeps_frame : ℕ → Bool
keeps_frame op = (ltb 0 op && ltb op 12) || eqb op 13

abbrev pub view_in : List ℤ → ℕ → ℕ → View
view_in f line op =
    record {
      onward = keeps_frame op && not (eqb op 10);
      ends = not (keeps_frame op);
      target = first_if f line (eqb op 10 || eqb op 11);
      reads = first_if f line (eqb op 1);
      writes = first_if f line (eqb op 2);
      takes = first_if f line (eqb op 5 || eqb op 13);
      writing = eqb op 5;
      gives = first_if f line (eqb op 6);
      points = first_if f line (eqb op 7);
      source = second_if f line (eqb op 7);
      names = first_if f line (eqb op 8 || eqb op 9);
      starting = eqb op 9;
      arguments = arguments_if f line (eqb op 8 || eqb op 9);
    }

pub view_in_lem : (f : List ℤ) (line op : ℕ) → view (statement_in f line op) ≡ view_in f line op
unfolding statement_in
view_in_lem f line zero = refl
view_in_lem f line (suc zero) = refl
view_in_lem f line (suc (suc zero)) = refl
view_in_lem f line (suc (suc (suc zero))) = refl
view_in_lem f line (suc (suc (suc (suc zero)))) = refl
view_in_lem f line (suc (suc (suc (suc (suc zero))))) = refl
view_in_lem f line (suc (suc (suc (suc (suc (suc zero)))))) = refl
view_in_lem f line (suc (suc (suc (suc (suc (suc (suc zero))))))) = refl
view_in_lem f line (suc (suc (suc (suc (suc (suc (suc (suc zero)))))))) = refl
view_in_lem f line (suc (suc (suc (suc (suc (suc (suc (suc (suc zero))))))))) = refl
view_in_lem f line (suc (suc (suc (suc (suc (suc (suc (suc (suc (suc zero)))))))))) = refl
view_in_lem f line (suc (suc (suc (suc (suc (suc (suc (suc (suc (suc (suc zero))))))))))) = refl
view_in_lem f line (suc (suc (suc (suc (suc (suc (suc (suc (suc (suc (suc (suc zero)))))))))))) = refl
view_in_lem f line (suc (suc (suc (suc (suc (suc (suc (suc (suc (suc (suc (suc (suc zero))))))))))))) = refl
view_in_lem f line (suc (suc (suc (suc (suc (suc (suc (suc (suc (suc (suc (suc (suc (suc n)))))))))))))) =
    let op : ℕ = suc (suc (suc (suc (suc (suc (suc (suc (suc (suc (suc (suc (suc (suc n))))))))))))) in
    rw (
      lt-ltb 0 op (omega arith),
      le-ltb op 12 (omega arith),
      ne_eqb op 1 (omega arith),
      ne_eqb op 2 (omega arith),
      ne_eqb op 3 (omega arith),
      ne_eqb op 4 (omega arith),
      ne_eqb op 5 (omega arith),
      ne_eqb op 6 (omega arith),
      ne_eqb op 7 (omega arith),
      ne_eqb op 8 (omega arith),
      ne_eqb op 9 (omega arith),
      ne_eqb op 10 (omega arith),
      ne_eqb op 11 (omega arith),
      ne_eqb op 13 (omega arith),
    )

-- what is taken in a mode, by the number of the operation: TAKER takes for reading
pub view_in_mode : (f : List ℤ) (line op : ℕ) (mode : Bool)
    → in_mode mode (view (statement_in f line op)) ≡ taking (view_in f line op) (first_if f line (eqb op 5 || (eqb op 13 && not mode)))
view_in_mode f line op mode = ap (in_mode mode) (view_in_lem f line op) ∙ ap (taking (view_in f line op)) (by mode (eqb op 5) (eqb op 13))
  where
    by : (m a b : Bool) → cond m (cond a (first_if f line (a || b)) None) (first_if f line (a || b)) ≡ first_if f line (a || (b && not m))
    by true true b = refl
    by true false true = refl
    by true false false = refl
    by false true b = refl
    by false false true = refl
    by false false false = refl

-- TAKER by its number
pub takes_to_read_in : (f : List ℤ) (line op : ℕ) → takes_to_read (view (statement_in f line op)) ≡ eqb op 13
takes_to_read_in f line op = ap takes_to_read (view_in_lem f line op) ∙ go (eqb op 5) refl
  where
    by : (b : Bool) → test_on (first_if f line (false || b)) (λ h. not false) ≡ b
    by true = refl
    by false = refl

    go : (a : Bool) → eqb op 5 ≡ a → test_on (first_if f line (a || eqb op 13)) (λ h. not a) ≡ eqb op 13
    go true e = let u : op ≡ 5 = eqb-true op 5 e in rw u
    go false e = by (eqb op 13)

-- CALL and START by their numbers
pub calls_in : (f : List ℤ) (line op : ℕ) → calls (view (statement_in f line op)) ≡ first_if f line (eqb op 8)
calls_in f line op = ap calls (view_in_lem f line op) ∙ go (eqb op 9) refl
  where
    go : (b : Bool) → eqb op 9 ≡ b → cond b None (first_if f line (eqb op 8 || b)) ≡ first_if f line (eqb op 8)
    go true e = let u : op ≡ 9 = eqb-true op 9 e in rw u
    go false e = at (eqb op 8)
      where
        at : (c : Bool) → first_if f line (c || false) ≡ first_if f line c
        at true = refl
        at false = refl

pub starts_in : (f : List ℤ) (line op : ℕ) → starts (view (statement_in f line op)) ≡ first_if f line (eqb op 9)
starts_in f line op = ap starts (view_in_lem f line op) ∙ go (eqb op 9) refl
  where
    go : (b : Bool) → eqb op 9 ≡ b → cond b (first_if f line (eqb op 8 || b)) None ≡ first_if f line b
    go true e = at (eqb op 8)
      where
        at : (c : Bool) → first_if f line (c || true) ≡ Some (field f line 2)
        at true = refl
        at false = refl
    go false e = refl

-- the view with what flow asks of it in other words
abbrev pub flowing : View → Option ℕ → ℕ → Option ℕ → Arguments → View
flowing v points source names arguments =
    record {
      onward = v.onward;
      ends = v.ends;
      target = v.target;
      reads = v.reads;
      writes = v.writes;
      takes = v.takes;
      writing = v.writing;
      gives = v.gives;
      points = points;
      source = source;
      names = names;
      starting = v.starting;
      arguments = arguments;
    }

pub flowing_is : (v : View) {p n : Option ℕ} {s : ℕ} {a : Arguments} → p ≡ v.points → s ≡ v.source → n ≡ v.names → a ≡ v.arguments → flowing v p s n a ≡ v
flowing_is v e f g h = rw (e, f, g, h)
