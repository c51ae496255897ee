-- The law, of every run.
use Rattle.std.proofs.Common.{◌≡◌, ℕ, ◌*◌, ◌≤◌, Bool, true, false, not, ◌||◌, eqb, ltb, ◌⊎◌, List, [], ◌∷◌, Some, None, Ok, Err, Option, Result, sym, refl, ap, ◌∙◌, subst, inl, inr, ⊎_elim, mod-lt, arith}
use Rattle.std.proofs.lemmas.Bool.{both_ways}
use Rattle.codec.specs.Kinds.{Kinds, Lawful, record_bytes}
use Rattle.table.specs.declared.entry.Entry.{Entry}
use Rattle.table.specs.declared.fault.TableFault.TheVariants.{TooMany}
use Rattle.table.specs.declared.pair.Head.{Head}
use Rattle.table.specs.declared.pair.Head.TheVariants.{Vacant as none, Latest as latest, Equal as equal}
use Rattle.table.specs.Store.{TableMeaning, at, apply_all}
use Rattle.journal.specs.declared.fault.Cursor.{Cursor}
use Rattle.journal.specs.declared.fault.JournalFault.{JournalFault}
use Rattle.journal.specs.Rows.{Row, JournalMeaning, row_at, stored_of, checked, apply_all as apply_journal}
use Rattle.std.specs.Str.{bytes_eq}
use Rattle.model.proofs.Values.{checked_back}
use Rattle.model.specs.declared.Settings.{Settings}
use Rattle.model.specs.declared.Checkpoint.{Checkpoint}
use Rattle.model.specs.declared.Numbers.{Numbers}
use Rattle.model.specs.declared.Fault.{Fault}
use Rattle.model.specs.declared.Fault.TheVariants.{InitialSize, Frequency, ChunkSize, Table}
use Rattle.model.specs.Common.{power_of_two, refuse, ◌then◌, unless, answered, equal_at, hash, table_index, head_at, pair_past, pair_equal}
use Rattle.model.specs.Faults.{fault_number}
use Rattle.model.specs.Init.{settings_fault, start_fault, stop_fault, init_answer, resumed}
use Rattle.model.specs.Lookup.{has_no_next, walk_from, found_by, find_key, lifted, get_found, get_answer, has_found, has_answer}
use Rattle.model.specs.Put.{put_fault}
use Rattle.model.specs.Sync.{close_fault, epoch_fault, chunk_fault, start, sync_range, sync_changes, sync_fault, synced}
use Rattle.model.specs.Runs.{Module}
use Rattle.model.specs.Law.{Trail, AddsBy, Adds, Met, ends, goes, MetFrom, ledger_trail, first, is_there, Outside, Led, Law}
use Rattle.model.proofs.Replay.{apply_cells}
use Rattle.model.proofs.Chains.{Finds, met_walk_from, met_from_more, extends_same}
use Rattle.model.proofs.Holds.{Open, Holds}
use Rattle.model.proofs.Puts.{then_left}
use Rattle.model.proofs.Syncs.{table_synced, epoch_early, settled_trails, rows_synced}
use Rattle.model.proofs.Inits.{no_stop, not_empty, no_fault}
use Rattle.model.proofs.Refusals.{then_some, refuse_some, none_some, pair_none, put_refused, sync_refused, close_refused}
use Rattle.model.proofs.Steps.{run_holds}

module _ {K V : Type 0} (kinds : Kinds K V) where
  led : (m : Module K V) (v : Numbers) → Led kinds m v → Open kinds v m.table m.journal m.ledger.lines m.latest
  led m v l = (run_holds kinds l.run).opened v l.freezer

  -- ---- lookups

  module _ (lawful : Lawful kinds) (v : Numbers) (t : TableMeaning) (j : JournalMeaning K) (lines : List (K × V)) (given : Option Checkpoint) (o : Open kinds v t j lines given) (k : K) where
    abbrev i : ℕ
    i = table_index kinds v.table_size k

    no_fault_here : (pair_past t i then pair_equal t i) ≡ None
    no_fault_here = pair_none kinds v t j lines given o i (mod-lt (hash (kinds.bytes k)) o.sound.positive)

    finds : Finds kinds lawful j k (ledger_trail kinds k lines) (find_key kinds v t j k)
    finds =
        subst (λ (f : Option Fault). Finds kinds lawful j k (ledger_trail kinds k lines) (found_by kinds v t j f (walk_from kinds j.rows k (head_at t.cells i)))) (sym no_fault_here)
        (met_walk_from kinds lawful j k (head_at t.cells i) (ledger_trail kinds k lines) (o.trails k))

    get_by : (all : List V) (r : Result (Option Cursor) Fault) → Finds kinds lawful j k all r → get_found kinds v t j r ≡ Ok (first all)
    get_by [] r f = ap (get_found kinds v t j) f
    get_by (x ∷ xs) r f = ap (get_found kinds v t j) f.1 ∙ ap (lifted kinds v t j) f.2

    has_by : (all : List V) (r : Result (Option Cursor) Fault) → Finds kinds lawful j k all r → has_found kinds v t j r ≡ Ok (is_there all)
    has_by [] r f = ap (has_found kinds v t j) f
    has_by (x ∷ xs) r f = ap (has_found kinds v t j) f.1

    get_is : get_answer kinds v t j k ≡ Ok (first (ledger_trail kinds k lines))
    get_is = get_by (ledger_trail kinds k lines) (find_key kinds v t j k) finds

    has_is : has_answer kinds v t j k ≡ Ok (is_there (ledger_trail kinds k lines))
    has_is = has_by (ledger_trail kinds k lines) (find_key kinds v t j k) finds

  -- ---- a trail is one

  module _ (lawful : Lawful kinds) (rows : ℕ → List (Row K)) (k : K) where
    one_value : (x y : V) → stored_of (kinds.encode x) ≡ stored_of (kinds.encode y) → x ≡ y
    one_value x y e =
        let c : Cursor = record { section = 0; offset = 0; size = 0 } in
        let r : ◌≡◌ {A = Result V JournalFault} (Ok x) (Ok y) = sym (checked_back kinds lawful c x) ∙ ap (checked kinds.decode c) e ∙ checked_back kinds lawful c y in
        cc

    adds_one : (b : Bool) (r : Row K) (rest all more : List V) → AddsBy kinds rows k b r rest all → AddsBy kinds rows k b r rest more → all ≡ more
    adds_one true r rest all more a c = a.2 ∙ ap (λ (x : V). x ∷ rest) (one_value a.0 c.0 (sym a.1 ∙ c.1)) ∙ sym c.2
    adds_one false r rest all more a c = a ∙ sym c

    record View (s p : ℕ) (all : List V) : Type 0 where
      pub row : Row K
      pub there : row_at (rows s) p ≡ Some row
      pub onward : ((has_no_next row ≡ true) × Adds kinds rows k row [] all)
          ⊎ ((rest : List V) × (has_no_next row ≡ false) × Met kinds rows k row.next_section row.next_position rest × Adds kinds rows k row rest all)

    view : {s p : ℕ} {all : List V} → Met kinds rows k s p all → View s p all
    view (ends s p r all q n a) = record { row = r; there = q; onward = inl (n, a) }
    view (goes s p r rest all q n l m a) = record { row = r; there = q; onward = inr (rest, n, m, a) }

    -- the same row, as the other chain has it
    moved : {s p : ℕ} {all : List V} (r : Row K) → row_at (rows s) p ≡ Some r → (w : View s p all) →
        ((has_no_next r ≡ true) × Adds kinds rows k r [] all) ⊎ ((rest : List V) × (has_no_next r ≡ false) × Met kinds rows k r.next_section r.next_position rest × Adds kinds rows k r rest all)
    moved {s} {p} {all} r q w =
        let two : ◌≡◌ {A = Option (Row K)} (Some r) (Some w.row) = sym q ∙ w.there in
        let e : w.row ≡ r = cc in
        subst (λ (z : Row K). ((has_no_next z ≡ true) × Adds kinds rows k z [] all) ⊎ ((rest : List V) × (has_no_next z ≡ false) × Met kinds rows k z.next_section z.next_position rest × Adds kinds rows k z rest all)) e w.onward

    pub met_one : {s p : ℕ} {all : List V} → Met kinds rows k s p all → (more : List V) → Met kinds rows k s p more → all ≡ more
    met_one (ends s p r all q n a) more m =
        ⊎_elim (λ (w : (has_no_next r ≡ true) × Adds kinds rows k r [] more). adds_one (bytes_eq (kinds.bytes r.key) (kinds.bytes k)) r [] all more a w.1)
        (λ (w : (rest : List V) × (has_no_next r ≡ false) × Met kinds rows k r.next_section r.next_position rest × Adds kinds rows k r rest more). absurd (both_ways (has_no_next r) w.1 n))
        (moved r q (view m))
    met_one (goes s p r rest all q n l d a) more m =
        ⊎_elim (λ (w : (has_no_next r ≡ true) × Adds kinds rows k r [] more). absurd (both_ways (has_no_next r) n w.0))
        (λ (w : (rest : List V) × (has_no_next r ≡ false) × Met kinds rows k r.next_section r.next_position rest × Adds kinds rows k r rest more).
        adds_one (bytes_eq (kinds.bytes r.key) (kinds.bytes k)) r rest all more a (subst (λ (z : List V). Adds kinds rows k r z more) (sym (met_one d w.0 w.2)) w.3))
        (moved r q (view m))

    pub met_from_one : (H : Head) (all more : List V) → MetFrom kinds rows k H all → MetFrom kinds rows k H more → all ≡ more
    met_from_one none all more p q = p ∙ sym q
    met_from_one (latest h) all more p q = met_one p more q
    met_from_one equal all more p q = absurd p

  -- ---- what stops init

  answered_err : {A : Type 0} (g : Option Fault) (a : A) (f : Fault) → answered g a ≡ Err f → g ≡ Some f
  answered_err None a f e = let z : ◌≡◌ {A = ℕ} 0 1 = cc in absurd (omega arith)
  answered_err (Some g) a f e = let z : g ≡ f = cc in ap Some z

  settings_number : (s : Settings) (f : Fault) → settings_fault s ≡ Some f → fault_number f ≤ 3
  settings_number s f e =
      let a : Bool = not (power_of_two s.initial_size) in
      let b : Bool = eqb s.resize_frequency 0 || eqb s.resize_frequency 255 in
      let c : Bool = eqb s.resize_chunk_size 0 in
      ⊎_elim (λ (z : refuse a InitialSize ≡ Some f). subst (λ (g : Fault). fault_number g ≤ 3) (refuse_some a InitialSize f z) (omega arith))
      (λ (y : (refuse b Frequency then refuse c ChunkSize) ≡ Some f).
      ⊎_elim (λ (z : refuse b Frequency ≡ Some f). subst (λ (g : Fault). fault_number g ≤ 3) (refuse_some b Frequency f z) (omega arith))
      (λ (z : refuse c ChunkSize ≡ Some f). subst (λ (g : Fault). fault_number g ≤ 3) (refuse_some c ChunkSize f z) (omega arith))
      (then_some (refuse b Frequency) (refuse c ChunkSize) f y))
      (then_some (refuse a InitialSize) (refuse b Frequency then refuse c ChunkSize) f e)

  module _ (m : Module K V) (h : Holds kinds m) (s : Settings) (f : Fault) where
    abbrev fault_at : Option Checkpoint → Option Fault
    fault_at r = (settings_fault s then start_fault kinds s m.table m.journal r) then stop_fault kinds s m.latest m.table m.journal r

    init_by : (l : Option Checkpoint) → m.latest ≡ l → fault_at (resumed l) ≡ Some f → (fault_number f ≤ 3) ⊎ ((fault_number f ≡ 8) × (m.latest ≡ None))
    init_by None z e =
        ⊎_elim
        (λ (y : (settings_fault s then start_fault kinds s m.table m.journal None) ≡ Some f).
        ⊎_elim (λ (x : settings_fault s ≡ Some f). inl (settings_number s f x))
        (λ (x : start_fault kinds s m.table m.journal None ≡ Some f). inr (subst (λ (g : Fault). fault_number g ≡ 8) (refuse_some (ltb m.table.most (2 * s.initial_size)) (Table TooMany) f x) refl, z))
        (then_some (settings_fault s) (start_fault kinds s m.table m.journal None) f y))
        (λ (y : ◌≡◌ {A = Option Fault} None (Some f)). none_some f y)
        (then_some (settings_fault s then start_fault kinds s m.table m.journal None) None f e)
    init_by (Some c) z e =
        let b = h.based c z in
        let t = m.table in
        let j = m.journal in
        let e' : fault_at (Some c) ≡ Some f = ap fault_at (sym (not_empty kinds s c t m.since j m.ledger.copy b)) ∙ e in
        let stop : stop_fault kinds s m.latest t j (Some c) ≡ None = ap equal_at (no_stop kinds s c t m.since j m.ledger.copy b) in
        let start_none = no_fault kinds s c t m.since j m.ledger.copy b in
        ⊎_elim
        (λ (y : (settings_fault s then start_fault kinds s t j (Some c)) ≡ Some f).
        ⊎_elim (λ (x : settings_fault s ≡ Some f). inl (settings_number s f x))
        (λ (x : start_fault kinds s t j (Some c) ≡ Some f). none_some f (sym start_none ∙ x))
        (then_some (settings_fault s) (start_fault kinds s t j (Some c)) f y))
        (λ (y : stop_fault kinds s m.latest t j (Some c) ≡ Some f). none_some f (sym stop ∙ y))
        (then_some (settings_fault s then start_fault kinds s t j (Some c)) (stop_fault kinds s m.latest t j (Some c)) f e')

    init_is : init_answer kinds s m.latest m.table m.journal ≡ Err f → (fault_number f ≤ 3) ⊎ ((fault_number f ≡ 8) × (m.latest ≡ None))
    init_is e = init_by m.latest refl (answered_err (fault_at (resumed m.latest)) _ f e)

  -- ---- sync

  module _ (v : Numbers) (t : TableMeaning) (j : JournalMeaning K) (lines : List (K × V)) (given : Option Checkpoint) (o : Open kinds v t j lines given) where
    trail_by : (f : Option Fault) → sync_fault v t ≡ f → (k : K) (all : List V) → Trail kinds v t j k all → Trail kinds (unless f v (synced v t)) (apply_all t (unless f [] (sync_changes v t))) (apply_journal (record_bytes kinds) j (unless f [] (sync_range v.modified_sections))) k all
    trail_by (Some f) z k all m = m
    trail_by None z k all m =
        let early = epoch_early v (then_left (epoch_fault v) (chunk_fault v t (start v t)) z) in
        let after = apply_journal (record_bytes kinds) j (sync_range v.modified_sections) in
        met_from_more kinds k j.rows after.rows _ all (extends_same j.rows after.rows (λ s. sym (rows_synced (record_bytes kinds) j v.modified_sections s)))
        (settled_trails kinds v t j lines o.sound o.epoch early o.power o.trails o.above o.sections o.small o.unsynced k all m)

    entry_by : (f : Option Fault) (i : ℕ) → Outside v (start v t) i → at (apply_all t (unless f [] (sync_changes v t))).cells i ≡ at t.cells i
    entry_by (Some f) i a = refl
    entry_by None i a = ap (λ (w : List Entry). at w i) (apply_cells t (sync_changes v t)) ∙ (table_synced v t o.sound o.epoch).entries i a

-- ---- the law

pub law : {K V : Type 0} (kinds : Kinds K V) → Lawful kinds → Law kinds
law {K} {V} kinds lawful = record {
  one_trail = λ v t j k all more p q. met_from_one kinds lawful j.rows k (head_at t.cells (table_index kinds v.table_size k)) all more p q;
  trails = λ m v l k. (led kinds m v l).trails k;
  gets = λ m v l k. get_is kinds lawful v m.table m.journal m.ledger.lines m.latest (led kinds m v l) k;
  has = λ m v l k. has_is kinds lawful v m.table m.journal m.ledger.lines m.latest (led kinds m v l) k;
  inits = λ es m r s f e. init_is kinds m (run_holds kinds r) s f e;
  sync_trails = λ m v l ok k all q. trail_by kinds v m.table m.journal m.ledger.lines m.latest (led kinds m v l) (sync_fault v m.table) refl k all q;
  sync_entries = λ m v l i a. entry_by kinds v m.table m.journal m.ledger.lines m.latest (led kinds m v l) (sync_fault v m.table) i a;
  puts = λ m v l fits k x f e. put_refused kinds v m.table m.journal m.ledger.lines m.latest (led kinds m v l) fits k x f (answered_err kinds (put_fault kinds v m.table m.journal fits k x) _ f e);
  syncs = λ m v l f e. sync_refused kinds v m.table m.journal m.ledger.lines m.latest (led kinds m v l) f (answered_err kinds (sync_fault v m.table) _ f e);
  closes = λ m v l f e. close_refused kinds v m.table m.journal m.ledger.lines m.latest (led kinds m v l) f (answered_err kinds (close_fault v m.table) _ f e);
  alike = λ m n v w l r e k.
      let a = led kinds m v l in
      let b = led kinds n w r in
      let same : ledger_trail kinds k m.ledger.lines ≡ ledger_trail kinds k n.ledger.lines = ap (ledger_trail kinds k) e in (
        λ all q. subst (λ (z : List V). Trail kinds w n.table n.journal k z) (sym (met_from_one kinds lawful m.journal.rows k (head_at m.table.cells (table_index kinds v.table_size k)) all (ledger_trail kinds k m.ledger.lines) q (a.trails k) ∙ same)) (b.trails k),
        get_is kinds lawful v m.table m.journal m.ledger.lines m.latest a k ∙ ap (λ (z : List V). Ok (first z)) same ∙ sym (get_is kinds lawful w n.table n.journal n.ledger.lines n.latest b k),
        has_is kinds lawful v m.table m.journal m.ledger.lines m.latest a k ∙ ap (λ (z : List V). Ok (is_there z)) same ∙ sym (has_is kinds lawful w n.table n.journal n.ledger.lines n.latest b k),
      );
}
