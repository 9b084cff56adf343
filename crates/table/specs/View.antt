-- What a statement is to the rules, by attributes: seen by cases here, and nowhere else but in the decoding of its line and in the machine's step. All other
-- definitions are lines over an attribute. Assumes nothing.
use Rattle.std.specs.Prelude.{ℕ, ◌≡◌, Bool, true, false, cond, not, List, [], Option, Some, None}
use Rattle.table.specs.declared.Arguments.{Arguments}
use Rattle.table.specs.declared.View.{View}
use Rattle.table.specs.declared.Statement.{Statement}
use Rattle.table.specs.declared.Statement.TheVariants.{Read, Write, Set, Add, Take, Give, Point, Call, Start, Jump, JumpZero, Return, TakeRead}

-- ---- the view

abbrev pub no_arguments : Arguments
no_arguments = record { first = 0; second = 0; third = 0; fourth = 0 }

-- it goes on, and does something to the cell or lock that a handle refers to: reads, writes, takes (and whether for writing), gives
abbrev pub through : Option ℕ → Option ℕ → Option ℕ → Bool → Option ℕ → View
through reads writes takes writing gives =
    record {
      onward = true;
      ends = false;
      target = None;
      reads = reads;
      writes = writes;
      takes = takes;
      writing = writing;
      gives = gives;
      points = None;
      source = 0;
      names = None;
      starting = false;
      arguments = no_arguments;
    }

-- it goes on, and makes a handle refer to what another refers to
abbrev pub pointing : Option ℕ → ℕ → View
pointing points source =
    record {
      onward = true;
      ends = false;
      target = None;
      reads = None;
      writes = None;
      takes = None;
      writing = false;
      gives = None;
      points = points;
      source = source;
      names = None;
      starting = false;
      arguments = no_arguments;
    }

-- it goes on, and names a routine: by START, or by CALL
abbrev pub naming : Option ℕ → Bool → Arguments → View
naming names starting arguments =
    record {
      onward = true;
      ends = false;
      target = None;
      reads = None;
      writes = None;
      takes = None;
      writing = false;
      gives = None;
      points = None;
      source = 0;
      names = names;
      starting = starting;
      arguments = arguments;
    }

-- it only goes: on, out of its frame, to a target
abbrev pub going : Bool → Bool → Option ℕ → View
going onward ends target =
    record {
      onward = onward;
      ends = ends;
      target = target;
      reads = None;
      writes = None;
      takes = None;
      writing = false;
      gives = None;
      points = None;
      source = 0;
      names = None;
      starting = false;
      arguments = no_arguments;
    }

-- it only goes on
abbrev pub idle : View
idle = going true false None

-- the table of operations, as the rules see it: "JUMPZ may go both ways and CALL goes on to the next statement, whatever the values"
abbrev pub view : Statement → View
view (Read h) = through (Some h.number) None None false None
view (Write h) = through None (Some h.number) None false None
view (Set n) = idle
view (Add n) = idle
view (Take h) = through None None (Some h.number) true None
view (Give h) = through None None None false (Some h.number)
view (Point h g) = pointing (Some h.number) g.number
view (Call q a) = naming (Some q) false a
view (Start q a) = naming (Some q) true a
view (Jump s) = going false false (Some s.statement)
view (JumpZero s) = going true false (Some s.statement)
view Return = going false true None
view (TakeRead h) = through None None (Some h.number) false None

-- ---- references

-- it refers to something, of which P holds
abbrev pub On : Option ℕ → (ℕ → Type 0) → Type 0
On r P = (n : ℕ) × (r ≡ Some n) × P n

-- P holds of what it refers to, if to anything
abbrev pub Each : Option ℕ → (ℕ → Type 0) → Type 0
Each r P = (n : ℕ) → r ≡ Some n → P n

-- what f says of what it refers to, or else d
abbrev pub on_or : {A : Type 0} → Option ℕ → (ℕ → A) → A → A
on_or (Some n) f d = f n
on_or None f d = d

-- the set, the list and the test of what it refers to: empty and false if it is nothing
abbrev pub set_on : Option ℕ → (ℕ → ℕ) → ℕ
set_on r f = on_or r f 0

abbrev pub list_on : {A : Type 0} → Option ℕ → (ℕ → List A) → List A
list_on r f = on_or r f []

abbrev pub test_on : Option ℕ → (ℕ → Bool) → Bool
test_on r f = on_or r f false

-- the list if the test is true, else the empty one
abbrev pub when : {A : Type 0} → Bool → List A → List A
when b l = cond b l []

-- ---- what two attributes say together

-- the routine that it CALLs, and the routine that it STARTs
abbrev pub calls : View → Option ℕ
calls v = cond v.starting None v.names

abbrev pub starts : View → Option ℕ
starts v = cond v.starting v.names None

-- the handle whose lock it takes: for writing (true), or in either way (false)
abbrev pub takes_in : Bool → View → Option ℕ
takes_in w v = cond w (cond v.writing v.takes None) v.takes

-- it takes a lock, and not for writing
abbrev pub takes_to_read : View → Bool
takes_to_read v = test_on v.takes (λ h. not v.writing)

-- the view with what it takes in other words, and as it is where only locks taken for writing count, or all
abbrev pub taking : View → Option ℕ → View
taking v takes =
    record {
      onward = v.onward;
      ends = v.ends;
      target = v.target;
      reads = v.reads;
      writes = v.writes;
      takes = takes;
      writing = v.writing;
      gives = v.gives;
      points = v.points;
      source = v.source;
      names = v.names;
      starting = v.starting;
      arguments = v.arguments;
    }

abbrev pub in_mode : Bool → View → View
in_mode w v = taking v (takes_in w v)

-- the handle whose cell it reads (false) or writes (true)
abbrev pub accesses : Bool → View → Option ℕ
accesses w v = cond w v.writes v.reads
