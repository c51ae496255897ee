-- What may still stop a put, a sync or a close of a freezer that a run led to.
use Rattle.std.proofs.Common.{◌≡◌, ℕ, suc, ◌+◌, ◌-◌, ◌*◌, ◌<◌, ◌≤◌, Bool, true, false, cond, ◌&&◌, ltb, leb, ◌⊎◌, List, length, Some, None, Option, sym, refl, ap, ◌∙◌, subst, ap₂, inl, inr, ⊎_elim, mod-lt, arith}
use Rattle.std.proofs.lemmas.Bool.{and_right, le-ltb, lt-leb, cond-false, cases_lt}
use Rattle.codec.specs.Kinds.{Kinds, record_bytes}
use Rattle.table.specs.declared.entry.Entry.{Entry}
use Rattle.table.specs.Entries.{head}
use Rattle.table.specs.Store.{TableMeaning, at}
use Rattle.journal.specs.declared.fault.JournalFault.TheVariants.{Full}
use Rattle.journal.specs.Rows.{JournalMeaning, append_fault, in_bounds, later_than}
use Rattle.model.specs.declared.Checkpoint.{Checkpoint}
use Rattle.model.specs.declared.Numbers.{Numbers}
use Rattle.model.specs.declared.Fault.{Fault}
use Rattle.model.specs.declared.Fault.TheVariants.{LastSection, LastEpoch, Journal}
use Rattle.model.specs.Common.{refuse, ◌then◌, of_journal, last, equal_at, hash, head_at, is_equal, past_end, pair_past, pair_equal}
use Rattle.model.specs.Faults.{fault_number}
use Rattle.model.specs.Put.{above, is_full, put_section, put_index, mirrors, put_image, put_size, put_fault}
use Rattle.model.specs.Sync.{should_resize, chunk_start, chunk_end, range_past, range_equal, epoch_fault, starts, chunk_fault, sync_fault, pairs_read, close_fault}
use Rattle.model.proofs.Choice.{pair_is_equal}
use Rattle.model.proofs.Moves.{slot_two}
use Rattle.model.proofs.Chunk.{Images}
use Rattle.model.proofs.Holds.{Open}
use Rattle.model.proofs.Inits.{lowest_none}
use Rattle.model.proofs.Puts.{section_up, sound_long}

-- ---- the first fault of several

pub then_some : (a b : Option Fault) (f : Fault) → (a then b) ≡ Some f → (a ≡ Some f) ⊎ (b ≡ Some f)
then_some (Some g) b f e = inl e
then_some None b f e = inr e

pub refuse_some : (b : Bool) (g f : Fault) → refuse b g ≡ Some f → g ≡ f
refuse_some true g f e = cc
refuse_some false g f e = let z : ◌≡◌ {A = ℕ} 0 1 = cc in absurd (omega arith)

pub none_some : {B : Type 0} (f : Fault) → ◌≡◌ {A = Option Fault} None (Some f) → B
none_some f e = let z : ◌≡◌ {A = ℕ} 0 1 = cc in absurd (omega arith)

then_on : (a b : Option Fault) (f : Fault) → a ≡ None → (a then b) ≡ Some f → b ≡ Some f
then_on a b f z e = ap (λ (c : Option Fault). c then b) (sym z) ∙ e

both_none : (a b : Option Fault) → a ≡ None → b ≡ None → (a then b) ≡ None
both_none a b p q = ap₂ (λ (x y : Option Fault). x then y) p q

module _ {K V : Type 0} (kinds : Kinds K V) (v : Numbers) (t : TableMeaning) (j : JournalMeaning K) (lines : List (K × V)) (given : Option Checkpoint) (o : Open kinds v t j lines given) where
  abbrev n : ℕ
  n = v.table_size

  abbrev cells : List Entry
  cells = t.cells

  long : 2 * n ≤ length cells
  long = sound_long n v.next_epoch v.resize_progress cells o.sound

  pair_ok : (i : ℕ) → i < n → is_equal (head_at cells i) ≡ false
  pair_ok i b = pair_is_equal v.next_epoch _ _ (o.sound.pairs i b)

  image_ok : (p i : ℕ) → Images n cells (Some p) → i < n → is_equal (head_at cells (n + i)) ≡ false
  image_ok p i h b =
      ⊎_elim (λ (l : i < p). ap₂ (λ (x y : Entry). is_equal (head x y)) (h.2 i l).0 (h.2 i l).1 ∙ pair_ok i b)
      (λ (l : p ≤ i). ap₂ (λ (x y : Entry). is_equal (head x y)) (h.3 i l b).0 (h.3 i l b).1)
      (cases_lt i p)

  no_past : (m : ℕ) → m < length cells → past_end t m ≡ None
  no_past m h = cond-false (leb (length cells) m) _ _ (lt-leb (length cells) m h)

  pub pair_none : (i : ℕ) → i < n → (pair_past t i then pair_equal t i) ≡ None
  pair_none i b =
      both_none _ _ (both_none _ _ (no_past (2 * i) (omega (arith, long))) (no_past (2 * i + 1) (omega (arith, long))))
      (cond-false (is_equal (head_at cells i)) _ _ (pair_ok i b))

  -- ---- put: 10, 11

  module _ (fits : Bool) (k : K) (x : V) (f : Fault) where
    abbrev i : ℕ
    i = put_index kinds v t j fits k x

    b : i < n
    b = mod-lt (hash (kinds.bytes k)) o.sound.positive

    image_none : (g : Option ℕ) → Images n cells g → cond (above g i) (past_end t (put_image kinds v t j fits k x)) None ≡ None
    image_none None h = refl
    image_none (Some p) h = by (ltb i p)
      where
        inside : put_image kinds v t j fits k x < length cells
        inside = ⊎_elim (λ z. omega (arith, b, h.1)) (λ z. omega (arith, b, h.1)) (slot_two v.next_epoch (at cells (2 * i)) (at cells (2 * i + 1)))

        by : (y : Bool) → cond y (past_end t (put_image kinds v t j fits k x)) None ≡ None
        by true = no_past _ inside
        by false = refl

    not_below : later_than (put_section v) j ≡ false
    not_below = let u = section_up v in le-ltb (suc (put_section v)) j.sections (omega (arith, o.sections))

    appends : (space : Bool) → of_journal (append_fault space (record_bytes kinds) j (put_section v) (put_size kinds v t j fits k x)) ≡ Some f → fault_number f ≡ 10
    appends space e = by (space && in_bounds (record_bytes kinds) j (put_section v) (put_size kinds v t j fits k x)) (ap of_journal (sym (cond-false (later_than (put_section v) j) _ _ not_below)) ∙ e)
      where
        by : (y : Bool) → of_journal (cond y None (Some (Full (put_section v)))) ≡ Some f → fault_number f ≡ 10
        by true q = none_some f q
        by false q = let g : Journal (Full (put_section v)) ≡ f = cc in ap fault_number (sym g)

    pub put_refused : put_fault kinds v t j fits k x ≡ Some f → (fault_number f ≡ 10) ⊎ (fault_number f ≡ 11)
    put_refused e =
        let second : Option Fault = cond (mirrors kinds v t j fits k x) (past_end t (put_image kinds v t j fits k x)) None in
        let fourth : Option Fault = refuse (is_full v && leb last v.current_section) LastSection in
        let fifth : Option Fault = of_journal (append_fault fits (record_bytes kinds) j (put_section v) (put_size kinds v t j fits k x)) in
        let first_none : pair_past t i ≡ None = both_none _ _ (no_past (2 * i) (omega (arith, long, b))) (no_past (2 * i + 1) (omega (arith, long, b))) in
        let third_none : pair_equal t i ≡ None = cond-false (is_equal (head_at cells i)) _ _ (pair_ok i b) in
        ⊎_elim (λ (z : fourth ≡ Some f). inr (ap fault_number (sym (refuse_some _ LastSection f z))))
        (λ (z : fifth ≡ Some f). inl (appends fits z))
        (then_some fourth fifth f (then_on (pair_equal t i) (fourth then fifth) f third_none (then_on second (pair_equal t i then fourth then fifth) f (image_none v.resize_progress o.sound.images) (then_on (pair_past t i) (second then pair_equal t i then fourth then fifth) f first_none e))))

  -- ---- sync and close: 12

  past_none : (a c : ℕ) → c ≤ length cells → range_past t a c ≡ None
  past_none a c h = cond-false (ltb a c && ltb (length cells) c) _ _ (and_right (ltb a c) _ (le-ltb (length cells) c h))

  equal_none : (p q : ℕ) → ((m : ℕ) → m < q → is_equal (head_at cells m) ≡ false) → range_equal t p q ≡ None
  equal_none p q h = ap equal_at (lowest_none q _ (λ m l. and_right (leb p m) _ (h m l)))

  epoch_number : (rest : Option Fault) (f : Fault) → rest ≡ None → (epoch_fault v then rest) ≡ Some f → fault_number f ≡ 12
  epoch_number rest f z e =
      ⊎_elim (λ (q : epoch_fault v ≡ Some f). ap fault_number (sym (refuse_some _ LastEpoch f q)))
      (λ (q : rest ≡ Some f). none_some f (sym z ∙ q))
      (then_some (epoch_fault v) rest f e)

  chunk_none : (s : Bool) (g : Option ℕ) → Images n cells g → starts v t ≡ s → v.resize_progress ≡ g → should_resize v t g ≡ s → chunk_fault v t (chunk_start s g) ≡ None
  chunk_none true None h z y r =
      both_none _ _ (past_none 0 (2 * chunk_end v 0) (omega (arith, long)))
      (both_none _ _ (ap (λ (w : Bool). cond w None (range_past t (2 * (n + 0)) (2 * (n + chunk_end v 0)))) z) (equal_none 0 (chunk_end v 0) (λ m l. pair_ok m (omega arith))))
  chunk_none false None h z y r = refl
  chunk_none true (Some p) h z y r = let w : ◌≡◌ {A = ℕ} 0 1 = cc in absurd (omega arith)
  chunk_none false (Some p) h z y r =
      both_none _ _ (past_none (2 * p) (2 * chunk_end v p) (omega (arith, long)))
      (both_none _ _ (ap (λ (w : Bool). cond w None (range_past t (2 * (n + p)) (2 * (n + chunk_end v p)))) z ∙ past_none (2 * (n + p)) (2 * (n + chunk_end v p)) (omega (arith, h.1))) (equal_none p (chunk_end v p) (λ m l. pair_ok m (omega arith))))

  pub sync_refused : (f : Fault) → sync_fault v t ≡ Some f → fault_number f ≡ 12
  sync_refused f e = epoch_number _ f (chunk_none (starts v t) v.resize_progress o.sound.images refl refl refl) e

  read_none : (g : Option ℕ) → Images n cells g → (range_past t 0 (2 * pairs_read v g) then range_equal t 0 (pairs_read v g)) ≡ None
  read_none None h = both_none _ _ (past_none 0 (2 * n) long) (equal_none 0 n pair_ok)
  read_none (Some p) h =
      both_none _ _ (past_none 0 (2 * (2 * n)) (omega (arith, h.1)))
      (equal_none 0 (2 * n) (λ m l.
      ⊎_elim (λ (a : m < n). pair_ok m a)
      (λ (a : n ≤ m). let same : n + (m - n) ≡ m = omega arith in subst (λ (w : ℕ). is_equal (head_at cells w) ≡ false) same (image_ok p (m - n) h (omega arith)))
      (cases_lt m n)))

  pub close_refused : (f : Fault) → close_fault v t ≡ Some f → fault_number f ≡ 12
  close_refused f e = epoch_number _ f (read_none v.resize_progress o.sound.images) e
