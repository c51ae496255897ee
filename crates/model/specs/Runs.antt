-- Runs: calls that were done, calls that a crash broke off, crashes; beside them the ledger.
use Rattle.std.specs.Prelude.{◌≡◌, ℕ, suc, ◌<◌, ◌≤◌, Bool, true, false, cond, ◌&&◌, ◌||◌, ◌⊎◌, List, [], ◌∷◌, ◌++◌, length, take, Some, None, Ok, Err, Option, Result, ◌==◌, ◌≢◌, nat_le, nat_lt}
use Rattle.codec.specs.Kinds.{Kinds, record_bytes}
use Rattle.table.specs.declared.entry.Entry.{Entry}
use Rattle.table.specs.Entries.{empty, failing}
use Rattle.table.specs.Store.{TableMeaning, Change, write, resize, sync, syncs, at, apply_all}
use Rattle.journal.specs.declared.fault.Cursor.{Cursor}
use Rattle.journal.specs.Rows.{Row, JournalMeaning, JournalChange, apply_all as apply_journal}
use Rattle.model.specs.declared.Settings.{Settings}
use Rattle.model.specs.declared.Checkpoint.{Checkpoint}
use Rattle.model.specs.declared.Numbers.{Numbers}
use Rattle.model.specs.declared.Fault.{Fault}
use Rattle.model.specs.Init.{init_answer, init_table, init_journal}
use Rattle.model.specs.Put.{put_answer, put_table, put_journal, put_numbers}
use Rattle.model.specs.Lookup.{get_answer, get_cursor, has_answer}
use Rattle.model.specs.Sync.{sync_answer, sync_table, sync_journal, sync_numbers, close_answer, close_table, close_journal}

-- ---- calls and events

-- a call with its arguments
pub data Call (K V : Type 0) : Type 0 where
  init : Settings → Call K V
  put : K → V → Call K V
  get : K → Call K V
  get_at : Cursor → Call K V
  has : K → Call K V
  sync_call : Call K V
  close : Call K V

-- the Bool is what the journal answers to whether the row of a put fits
pub data Event (K V : Type 0) : Type 0 where
  done : Call K V → Bool → Event K V
  broken : Call K V → Bool → Event K V
  crash : Event K V

-- ---- the ledger: it looks at a call's arguments and at whether it was accepted, at nothing else

-- lines of key and value, and a copy of them
pub record Ledger (K V : Type 0) : Type 0 where
  pub lines : List (K × V)
  pub copy : List (K × V)

module _ {K V : Type 0} where
  -- empty at first
  abbrev pub new_ledger : Ledger K V
  new_ledger = record { lines = []; copy = [] }

  -- the puts since the copy are taken back
  abbrev pub taken_back : Ledger K V → Ledger K V
  taken_back l = record { lines = l.copy; copy = l.copy }

  -- the copy becomes the lines
  abbrev pub copied : Ledger K V → Ledger K V
  copied l = record { lines = l.lines; copy = l.lines }

  -- the latest line stands first
  abbrev pub line_added : K → V → Ledger K V → Ledger K V
  line_added k x l = record { lines = (k, x) ∷ l.lines; copy = l.copy }

  -- an accepted call; an init over a freezer that was not closed is a crash to the ledger, and after a close lines and copy are the same
  abbrev pub entered : Call K V → Ledger K V → Ledger K V
  entered (init s) l = taken_back l
  entered (put k x) l = line_added k x l
  entered (get k) l = l
  entered (get_at c) l = l
  entered (has k) l = l
  entered sync_call l = copied l
  entered close l = copied l

-- ---- a key module: the freezer, if one is open, its two stores, and what is remembered beside them

pub record Module (K V : Type 0) : Type 0 where
  pub freezer : Option Numbers
  pub table : TableMeaning
  -- the changes since the table's last sync
  pub since : List Change
  pub journal : JournalMeaning K
  -- the latest checkpoint that was answered
  pub latest : Option Checkpoint
  pub ledger : Ledger K V

-- ---- what a call asks, leaves and answers

-- whether it was accepted, the changes asked, the freezer and the latest checkpoint afterwards
pub record Effect (K : Type 0) : Type 0 where
  pub accepted : Bool
  pub table : List Change
  pub journal : List (JournalChange K)
  pub freezer : Option Numbers
  pub latest : Option Checkpoint

-- was a call accepted
abbrev pub is_ok : {A : Type 0} → Result A Fault → Bool
is_ok (Ok a) = true
is_ok (Err f) = false

-- what an accepted call answers, or else what was there
abbrev pub ok_or : {A : Type 0} → Result A Fault → Option A → Option A
ok_or (Ok a) old = Some a
ok_or (Err f) old = old

-- no freezer after an accepted close
abbrev pub closed : {A : Type 0} → Result A Fault → Numbers → Option Numbers
closed (Ok a) v = None
closed (Err f) v = Some v

module _ {K V : Type 0} (kinds : Kinds K V) where
  -- a lookup
  abbrev pub asks_nothing : Bool → Option Numbers → Option Checkpoint → Effect K
  asks_nothing ok v c = record { accepted = ok; table = []; journal = []; freezer = v; latest = c }

  -- init takes the latest checkpoint, or none before the first
  abbrev pub init_effect : Module K V → Settings → Effect K
  init_effect m s =
      let answer = init_answer kinds s m.latest m.table m.journal in
      record {
        accepted = is_ok answer;
        table = init_table kinds s m.latest m.table m.journal;
        journal = init_journal kinds s m.latest m.table m.journal;
        freezer = ok_or answer m.freezer;
        latest = m.latest;
      }

  -- a call on the open freezer
  abbrev pub open_effect : Numbers → Module K V → Call K V → Bool → Effect K
  open_effect v m (init s) fits = init_effect m s
  open_effect v m (put k x) fits = record {
    accepted = is_ok (put_answer kinds v m.table m.journal fits k x);
    table = put_table kinds v m.table m.journal fits k x;
    journal = put_journal kinds v m.table m.journal fits k x;
    freezer = Some (put_numbers kinds v m.table m.journal fits k x);
    latest = m.latest;
  }
  open_effect v m (get k) fits = asks_nothing (is_ok (get_answer kinds v m.table m.journal k)) (Some v) m.latest
  open_effect v m (get_at c) fits = asks_nothing (is_ok (get_cursor kinds v m.table m.journal c)) (Some v) m.latest
  open_effect v m (has k) fits = asks_nothing (is_ok (has_answer kinds v m.table m.journal k)) (Some v) m.latest
  open_effect v m sync_call fits = record {
    accepted = is_ok (sync_answer kinds v m.table m.journal);
    table = sync_table v m.table;
    journal = sync_journal kinds v m.table m.journal;
    freezer = Some (sync_numbers v m.table);
    latest = ok_or (sync_answer kinds v m.table m.journal) m.latest;
  }
  open_effect v m close fits = record {
    accepted = is_ok (close_answer kinds v m.table m.journal);
    table = close_table v m.table;
    journal = close_journal kinds v m.table m.journal;
    freezer = closed (close_answer kinds v m.table m.journal) v;
    latest = ok_or (close_answer kinds v m.table m.journal) m.latest;
  }

  -- which effect a call has: without an open freezer only init comes
  pub data Effects (m : Module K V) : Call K V → Bool → Effect K → Type 0 where
    opens : (s : Settings) (fits : Bool) → m.freezer ≡ None → Effects m (init s) fits (init_effect m s)
    calls : (v : Numbers) (c : Call K V) (fits : Bool) → m.freezer ≡ Some v → Effects m c fits (open_effect v m c fits)

  -- ---- a call that was done

  -- the changes since the last sync, one or more changes later
  abbrev pub since_after : Bool → List Change → List Change → List Change
  since_after eager old [] = old
  since_after eager old (c ∷ cs) = since_after eager (cond (syncs c eager) [] (old ++ (c ∷ []))) cs

  -- a module after a call
  abbrev pub after_done : Module K V → Call K V → Effect K → Module K V
  after_done m c e = record {
    freezer = e.freezer;
    table = apply_all m.table e.table;
    since = since_after m.table.eager m.since e.table;
    journal = apply_journal (record_bytes kinds) m.journal e.journal;
    latest = e.latest;
    ledger = cond e.accepted (entered c m.ledger) m.ledger;
  }

-- ---- a crash

-- was an index written or added, where the length was `len` at first
abbrev pub touched : ℕ → List Change → ℕ → Bool
touched len [] i = false
touched len (write k e ∷ cs) i = i == k || touched len cs i
touched len (resize n ∷ cs) i = (nat_le len i && nat_lt i n) || touched n cs i
touched len (sync ∷ cs) i = touched len cs i

-- the entries written there
abbrev pub written : List Change → ℕ → List Entry
written [] i = []
written (write k e ∷ cs) i = cond (i == k) (e ∷ written cs i) (written cs i)
written (resize n ∷ cs) i = written cs i
written (sync ∷ cs) i = written cs i

-- the lengths held
abbrev pub lengths : ℕ → List Change → List ℕ
lengths len [] = len ∷ []
lengths len (write k e ∷ cs) = lengths len cs
lengths len (resize n ∷ cs) = len ∷ lengths n cs
lengths len (sync ∷ cs) = lengths len cs

-- is x one of them
abbrev pub Among : {A : Type 0} → A → List A → Type 0
Among x [] = ⊥
Among x (y ∷ ys) = (x ≡ y) ⊎ Among x ys

-- what a crash may leave at an index: the durable entry where it was not touched; else that, one written there, an empty entry or a failing one
abbrev pub MayHold : List Entry → List Change → ℕ → Entry → Type 0
MayHold durable since i e =
    (e ≡ at durable i)
    ⊎ ((touched (length durable) since i ≡ true) × (Among e (written since i) ⊎ ((e ≡ empty) ⊎ (failing e ≡ true))))

-- what a crash may leave of a table
pub record TableLeft (t : TableMeaning) (since : List Change) (left : TableMeaning) : Type 0 where
  pub held : Among (length left.cells) (lengths (length t.durable) since)
  pub entries : (i : ℕ) → i < length left.cells → MayHold t.durable since i (at left.cells i)
  -- what stands is durable, and the store is the same
  pub durable : left.durable ≡ left.cells
  pub most : left.most ≡ t.most
  pub eager : left.eager ≡ t.eager
  pub asked : left.asked ≡ t.asked

-- behind the durable rows of a section any rows may stand, only where rows were appended since
pub record JournalLeft {K : Type 0} (j left : JournalMeaning K) : Type 0 where
  pub more : ℕ → List (Row K)
  pub rows : (s : ℕ) → left.rows s ≡ take (j.durable s) (j.rows s) ++ more s
  pub only : (s : ℕ) → length (j.rows s) ≤ j.durable s → more s ≡ []
  pub durable : (s : ℕ) → left.durable s ≡ length (left.rows s)
  -- one more than the highest section with rows
  pub above : (s : ℕ) → left.sections ≤ s → left.rows s ≡ []
  pub highest : (s : ℕ) → left.sections ≡ suc s → left.rows s ≢ []
  pub eager : left.eager ≡ j.eager
  pub asked : left.asked ≡ j.asked

module _ {K V : Type 0} (kinds : Kinds K V) where
  -- a crash where these are the stores
  pub record Crashed (m : Module K V) (t : TableMeaning) (changes : List Change) (j : JournalMeaning K) (left : Module K V) : Type 0 where
    pub freezer : left.freezer ≡ None
    pub table : TableLeft t changes left.table
    pub since : left.since ≡ []
    pub journal : JournalLeft j left.journal
    pub latest : left.latest ≡ m.latest
    pub ledger : left.ledger ≡ taken_back m.ledger

  -- ---- steps and runs

  -- one event
  pub data Step (m : Module K V) : Event K V → Module K V → Type 0 where
    did : (c : Call K V) (fits : Bool) (e : Effect K) → Effects kinds m c fits e → Step m (done c fits) (after_done kinds m c e)
    -- any first part of the changes asked of each store, each on its own
    broke : (c : Call K V) (fits : Bool) (e : Effect K) → Effects kinds m c fits e →
        (part rest : List Change) → e.table ≡ part ++ rest →
        (journal_part journal_rest : List (JournalChange K)) → e.journal ≡ journal_part ++ journal_rest →
        (left : Module K V) →
        Crashed m (apply_all m.table part) (since_after kinds m.table.eager m.since part) (apply_journal (record_bytes kinds) m.journal journal_part) left →
        Step m (broken c fits) left
    crashed : (left : Module K V) → Crashed m m.table m.since m.journal left → Step m crash left

  -- a new module: no freezer yet, any table of durable entries, a journal without rows, an empty ledger
  pub record New (m : Module K V) : Type 0 where
    pub freezer : m.freezer ≡ None
    pub durable : m.table.durable ≡ m.table.cells
    pub since : m.since ≡ []
    pub rows : (s : ℕ) → m.journal.rows s ≡ []
    pub counts : (s : ℕ) → m.journal.durable s ≡ 0
    pub sections : m.journal.sections ≡ 0
    pub latest : m.latest ≡ None
    pub ledger : m.ledger ≡ new_ledger

  -- the latest event stands first
  pub data Run : List (Event K V) → Module K V → Type 0 where
    begin : (m : Module K V) → New m → Run [] m
    ◌and◌ : {es : List (Event K V)} {m : Module K V} {e : Event K V} {n : Module K V} → Run es m → Step m e n → Run (e ∷ es) n
