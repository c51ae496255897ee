-- An accepted put keeps the invariant.
use Rattle.std.proofs.Common.{◌≡◌, ℕ, suc, ◌+◌, ◌*◌, ◌%◌, ◌^◌, ◌<◌, ◌≤◌, Bool, true, false, cond, ◌&&◌, eqb, ltb, leb, ◌⊎◌, List, [], ◌∷◌, length, set, Some, None, Option, sym, refl, ap, ◌∙◌, subst, ap₂, inl, inr, ⊎_elim, mod-lt, mul-add, arith, length-append}
use Rattle.std.specs.Str.{bytes_eq}
use Rattle.std.proofs.lemmas.Slice.Eq.{bytes_eq-Decides}
use Rattle.std.proofs.lemmas.Bool.{ne_eqb, ltb-true, ltb-false, cond-false, cases_eq, cases_Bool, and_parts, and_right, leb-true}
use Rattle.codec.specs.Kinds.{Kinds, record_bytes}
use Rattle.table.specs.declared.entry.Entry.{Entry}
use Rattle.table.specs.declared.pair.Head.{Head}
use Rattle.table.specs.declared.pair.Head.TheVariants.{Latest as latest}
use Rattle.table.specs.Entries.{head, empty}
use Rattle.table.specs.Store.{TableMeaning, Change, write, at}
use Rattle.journal.specs.Rows.{Row, JournalMeaning, JournalChange, append, append_fault, appended, in_bounds, later_than, apply as apply_row}
use Rattle.model.specs.declared.Checkpoint.{Checkpoint}
use Rattle.model.specs.declared.Numbers.{Numbers}
use Rattle.model.specs.declared.Fault.{Fault}
use Rattle.model.specs.declared.Fault.TheVariants.{LastSection}
use Rattle.journal.specs.declared.fault.JournalFault.{JournalFault}
use Rattle.journal.specs.declared.fault.JournalFault.TheVariants.{Below, Full}
use Rattle.journal.proofs.RowsBack.{appended_here}
use Rattle.model.specs.Common.{refuse, ◌then◌, of_journal, last, hash, table_index, head_at, past_end, pair_past, pair_equal}
use Rattle.model.specs.Init.{recovered}
use Rattle.model.specs.Put.{above, place_section, place_position, extended, is_full, put_section, put_index, put_slot, put_head, put_added, mirrors, put_image, put_entry, put_fault, after_put, put_size}
use Rattle.model.specs.Law.{MetFrom, ledger_trail}
use Rattle.table.proofs.Wholes.{entry_whole}
use Rattle.model.proofs.Choice.{Pair, Written, write_chosen, with_0, with_1, recovered_later, chosen_loose}
use Rattle.model.proofs.Replay.{changed_all}
use Rattle.model.proofs.Chains.{met_put, row_of, met_from_more, extends_append, appended_there}
use Rattle.model.proofs.Moves.{PairWritten, pair_written, slot_two}
use Rattle.model.proofs.Safe.{now_fits, AllHarmless, Harmless}
use Rattle.model.proofs.Chunk.{Sound, Images, past, harmless_slot}
use Rattle.model.proofs.Holds.{Open, Based, Within, RangeOk, HarmlessTo}

-- ---- tests that passed

pub then_left : (a b : Option Fault) → (a then b) ≡ None → a ≡ None
then_left None b e = refl
then_left (Some f) b e = e

pub then_right : (a b : Option Fault) → (a then b) ≡ None → b ≡ None
then_right None b e = e
then_right (Some f) b e = let z : ◌≡◌ {A = ℕ} 0 1 = cc in absurd (omega arith)

pub refuse_no : (b : Bool) (f : Fault) → refuse b f ≡ None → b ≡ false
refuse_no true f e = let z : ◌≡◌ {A = ℕ} 0 1 = cc in absurd (omega arith)
refuse_no false f e = refl

module _ {K V : Type 0} (kinds : Kinds K V) (v : Numbers) (t : TableMeaning) (j : JournalMeaning K) (fits : Bool) (k : K) (x : V) where
  bounds : put_fault kinds v t j fits k x ≡ None → in_bounds (record_bytes kinds) j (put_section v) (put_size kinds v t j fits k x) ≡ true
  bounds e =
      let i = put_index kinds v t j fits k x in
      let fifth : Option Fault = of_journal (append_fault fits (record_bytes kinds) j (put_section v) (put_size kinds v t j fits k x)) in
      let fourth : Option Fault = refuse (is_full v && leb last v.current_section) LastSection in
      let third : Option Fault = pair_equal t i in
      let second : Option Fault = cond (mirrors kinds v t j fits k x) (past_end t (put_image kinds v t j fits k x)) None in
      let left : fifth ≡ None = then_right fourth fifth (then_right third (fourth then fifth) (then_right second (third then fourth then fifth) (then_right (pair_past t i) (second then third then fourth then fifth) e))) in
      append_passes fits (later_than (put_section v) j) _ (of_journal_none _ left)
    where
      of_journal_none : (f : Option JournalFault) → of_journal f ≡ None → f ≡ None
      of_journal_none None q = refl
      of_journal_none (Some f) q = let z : ◌≡◌ {A = ℕ} 0 1 = cc in absurd (omega arith)

      append_passes : (fits below bound : Bool) → cond below (Some (Below (put_section v))) (cond (fits && bound) None (Some (Full (put_section v)))) ≡ None → bound ≡ true
      append_passes fits true bound q = let z : ◌≡◌ {A = ℕ} 0 1 = cc in absurd (omega arith)
      append_passes true false true q = refl
      append_passes true false false q = let z : ◌≡◌ {A = ℕ} 0 1 = cc in absurd (omega arith)
      append_passes false false bound q = let z : ◌≡◌ {A = ℕ} 0 1 = cc in absurd (omega arith)

  one_more : put_fault kinds v t j fits k x ≡ None → suc (length (j.rows (put_section v))) ≤ 2 ^ 63
  one_more e =
      let l = length (j.rows (put_section v)) in
      let b : suc l * (kinds.width + 28) ≤ 2 ^ 63 = leb-true _ _ (and_parts (leb (suc l * (kinds.width + 28)) (2 ^ 63)) _ (bounds e)).0 in
      let d = mul-add (suc l) kinds.width 28 in
      omega arith

pub section_up : (v : Numbers) → (v.current_section ≤ put_section v)
section_up v = by (is_full v)
  where
    by : (b : Bool) → v.current_section ≤ cond b (v.current_section + 1) v.current_section
    by true = omega arith
    by false = omega arith

-- ---- the entries

record PutCells (n e i s : ℕ) (x : Entry) (cells new : List Entry) : Type 0 where
  pub len : length new ≡ length cells
  pub low : at new (2 * i) ≡ with_0 s x (at cells (2 * i))
  pub high : at new (2 * i + 1) ≡ with_1 s x (at cells (2 * i + 1))
  pub other : (m : ℕ) → m < n → (m ≡ i → ⊥) → (at new (2 * m) ≡ at cells (2 * m)) × (at new (2 * m + 1) ≡ at cells (2 * m + 1))

module _ (n e i s : ℕ) (x : Entry) (cells : List Entry) (b : i < n) (l : 2 * n ≤ length cells) (two : (s ≡ 0) ⊎ (s ≡ 1)) where
  abbrev put_once : List Entry
  put_once = set cells (2 * i + s) x

  abbrev put_twice : List Entry
  put_twice = set put_once (2 * (n + i) + s) x

  once : PairWritten cells put_once i s x
  once = pair_written cells i s x (omega arith) two

  once_cells : PutCells n e i s x cells put_once
  once_cells = record {
    len = once.len;
    low = once.low;
    high = once.high;
    other = λ m h f. (once.other (2 * m) (λ z. f (omega arith)) (λ z. omega arith), once.other (2 * m + 1) (λ z. omega arith) (λ z. f (omega arith)));
  }

  module _ (l4 : 4 * n ≤ length cells) where
    twice : PairWritten put_once put_twice (n + i) s x
    twice = let q = once.len in pair_written put_once (n + i) s x (omega arith) two

    twice_cells : PutCells n e i s x cells put_twice
    twice_cells = record {
      len = twice.len ∙ once.len;
      low = twice.other (2 * i) (λ z. omega arith) (λ z. omega arith) ∙ once.low;
      high = twice.other (2 * i + 1) (λ z. omega arith) (λ z. omega arith) ∙ once.high;
      other = λ m h f. (twice.other (2 * m) (λ z. omega arith) (λ z. omega arith) ∙ (once_cells.other m h f).0, twice.other (2 * m + 1) (λ z. omega arith) (λ z. omega arith) ∙ (once_cells.other m h f).1);
    }

  -- with the image, where it is made already
  abbrev put_list : Bool → List Entry
  put_list image = changed_all cells (write (2 * i + s) x ∷ cond image (write (2 * (n + i) + s) x ∷ []) [])

  put_cells : (progress : Option ℕ) → Images n cells progress → PutCells n e i s x cells (put_list (above progress i))
  put_cells None h = once_cells
  put_cells (Some p) h = by (ltb i p)
    where
      by : (b : Bool) → PutCells n e i s x cells (put_list b)
      by true = twice_cells (omega (arith, h.1))
      by false = once_cells

  put_images : (progress : Option ℕ) → Images n cells progress → Images n (put_list (above progress i)) progress
  put_images None h = once.len ∙ h
  put_images (Some p) h = by (ltb i p) refl
    where
      l4 : 4 * n ≤ length cells
      l4 = omega (arith, h.1)

      by : (b : Bool) → ltb i p ≡ b → Images n (put_list b) (Some p)
      by true q = (
        h.0,
        (twice l4).len ∙ once.len ∙ h.1,
        λ m g.
            ⊎_elim
            (λ (z : m ≡ i).
            subst (λ (w : ℕ). (at put_twice (2 * (n + w)) ≡ at put_twice (2 * w)) × (at put_twice (2 * (n + w) + 1) ≡ at put_twice (2 * w + 1))) (sym z) (
              (twice l4).low ∙ ap (with_0 s x) (once.other (2 * (n + i)) (λ y. omega arith) (λ y. omega arith) ∙ (h.2 i (ltb-true i p q)).0) ∙ sym (twice_cells l4).low,
              (twice l4).high ∙ ap (with_1 s x) (once.other (2 * (n + i) + 1) (λ y. omega arith) (λ y. omega arith) ∙ (h.2 i (ltb-true i p q)).1) ∙ sym (twice_cells l4).high,
            ))
            (λ (z : m ≡ i → ⊥). (
              (twice l4).other (2 * (n + m)) (λ y. z (omega arith)) (λ y. omega arith) ∙ once.other (2 * (n + m)) (λ y. omega arith) (λ y. omega arith) ∙ (h.2 m g).0 ∙ sym ((twice_cells l4).other m (omega (arith, h.0)) z).0,
              (twice l4).other (2 * (n + m) + 1) (λ y. omega arith) (λ y. z (omega arith)) ∙ once.other (2 * (n + m) + 1) (λ y. omega arith) (λ y. omega arith) ∙ (h.2 m g).1 ∙ sym ((twice_cells l4).other m (omega (arith, h.0)) z).1,
            ))
            (cases_eq m i),
        λ m f g. let a = ltb-true i p q in (
          (twice l4).other (2 * (n + m)) (λ y. omega arith) (λ y. omega arith) ∙ once.other (2 * (n + m)) (λ y. omega arith) (λ y. omega arith) ∙ (h.3 m f g).0,
          (twice l4).other (2 * (n + m) + 1) (λ y. omega arith) (λ y. omega arith) ∙ once.other (2 * (n + m) + 1) (λ y. omega arith) (λ y. omega arith) ∙ (h.3 m f g).1,
        ),
      )
      by false q = (
        h.0,
        once.len ∙ h.1,
        λ m g.
            let z : (m ≡ i → ⊥) = λ y. omega (arith, ltb-false i p q) in (
              once.other (2 * (n + m)) (λ y. omega arith) (λ y. omega arith) ∙ (h.2 m g).0 ∙ sym (once_cells.other m (omega (arith, h.0)) z).0,
              once.other (2 * (n + m) + 1) (λ y. omega arith) (λ y. omega arith) ∙ (h.2 m g).1 ∙ sym (once_cells.other m (omega (arith, h.0)) z).1,
            ),
        λ m f g. (
          once.other (2 * (n + m)) (λ y. omega arith) (λ y. omega arith) ∙ (h.3 m f g).0,
          once.other (2 * (n + m) + 1) (λ y. omega arith) (λ y. omega arith) ∙ (h.3 m f g).1,
        ),
      )

pub sound_long : (n e : ℕ) (progress : Option ℕ) (cells : List Entry) → Sound n e progress cells → 2 * n ≤ length cells
sound_long n e progress cells s = by progress s.images
  where
    by : (o : Option ℕ) → Images n cells o → 2 * n ≤ length cells
    by None h = omega arith
    by (Some p) h = omega (arith, h.1)

same_bytes_index : {K V : Type 0} (kinds : Kinds K V) (n : ℕ) (k k' : K) → (table_index kinds n k' ≡ table_index kinds n k → ⊥) → bytes_eq (kinds.bytes k) (kinds.bytes k') ≡ false
same_bytes_index kinds n k k' f =
    ⊎_elim (λ (t : bytes_eq (kinds.bytes k) (kinds.bytes k') ≡ true). absurd (f (sym (ap (λ (b : List ℕ). hash b % n) ((bytes_eq-Decides (kinds.bytes k) (kinds.bytes k')).0 t)))))
    (λ (t : bytes_eq (kinds.bytes k) (kinds.bytes k') ≡ false). t)
    (cases_Bool (bytes_eq (kinds.bytes k) (kinds.bytes k')))

-- ---- the call

module _ {K V : Type 0} (kinds : Kinds K V) (v : Numbers) (t : TableMeaning) (j : JournalMeaning K) (fits : Bool) (k : K) (x : V) (lines : List (K × V)) (given : Option Checkpoint)
    (o : Open kinds v t j lines given) (ok : put_fault kinds v t j fits k x ≡ None) where
  abbrev n : ℕ
  n = v.table_size

  abbrev e : ℕ
  e = v.next_epoch

  abbrev i : ℕ
  i = put_index kinds v t j fits k x

  abbrev s : ℕ
  s = put_slot kinds v t j fits k x

  abbrev new : Entry
  new = put_entry kinds v t j fits k x

  abbrev section : ℕ
  section = put_section v

  b : i < n
  b = mod-lt (hash (kinds.bytes k)) o.sound.positive

  long : 2 * n ≤ length t.cells
  long = sound_long n e v.resize_progress t.cells o.sound

  two : (s ≡ 0) ⊎ (s ≡ 1)
  two = slot_two e (at t.cells (2 * i)) (at t.cells (2 * i + 1))

  abbrev pub put_changes : List Change
  put_changes = write (2 * i + s) new ∷ cond (mirrors kinds v t j fits k x) (write (put_image kinds v t j fits k x) new ∷ []) []

  abbrev cells : List Entry
  cells = changed_all t.cells put_changes

  written : Written e new (at t.cells (2 * i)) (at t.cells (2 * i + 1)) s
  written = write_chosen e new (entry_whole e section (length (j.rows section)) (put_added kinds v t j fits k x) o.epoch) refl (at t.cells (2 * i)) (at t.cells (2 * i + 1)) (o.sound.pairs i b)

  pc : PutCells n e i s new t.cells cells
  pc = put_cells n e i s new t.cells b long two v.resize_progress o.sound.images

  put_pair : (m : ℕ) → m < n → Pair e (at cells (2 * m)) (at cells (2 * m + 1))
  put_pair m h =
      ⊎_elim
      (λ (z : m ≡ i). subst (λ (w : ℕ). Pair e (at cells (2 * w)) (at cells (2 * w + 1))) (sym z)
      (subst (λ (a : Entry). Pair e a (at cells (2 * i + 1))) (sym pc.low) (subst (λ (a : Entry). Pair e (with_0 s new (at t.cells (2 * i))) a) (sym pc.high) written.pair)))
      (λ (z : m ≡ i → ⊥). let q = pc.other m h z in
      subst (λ (a : Entry). Pair e a (at cells (2 * m + 1))) (sym q.0) (subst (λ (a : Entry). Pair e (at t.cells (2 * m)) a) (sym q.1) (o.sound.pairs m h)))
      (cases_eq m i)

  head_new : head_at cells i ≡ latest new
  head_new = ap₂ (λ (p q : Entry). head p q) pc.low pc.high ∙ written.head

  head_old : (m : ℕ) → m < n → (m ≡ i → ⊥) → head_at cells m ≡ head_at t.cells m
  head_old m h z = let q = pc.other m h z in ap₂ (λ (p q : Entry). head p q) q.0 q.1

  no_above : (r : ℕ) → section < r → j.rows r ≡ []
  no_above r h = o.above r (let u = section_up v in omega arith)

  abbrev new_rows : ℕ → List (Row K)
  new_rows = appended section (row_of kinds j.rows section no_above o.small k x (put_head kinds v t j fits k x)) j.rows

  put_trails : (k' : K) → MetFrom kinds new_rows k' (head_at cells (table_index kinds n k')) (ledger_trail kinds k' ((k, x) ∷ lines))
  put_trails k' =
      let i' = table_index kinds n k' in
      ⊎_elim
      (λ (z : i' ≡ i).
      let m : MetFrom kinds j.rows k' (head_at t.cells i) (ledger_trail kinds k' lines) = subst (λ (w : ℕ). MetFrom kinds j.rows k' (head_at t.cells w) (ledger_trail kinds k' lines)) z (o.trails k') in
      subst (λ (w : ℕ). MetFrom kinds new_rows k' (head_at cells w) (ledger_trail kinds k' ((k, x) ∷ lines))) (sym z)
      (subst (λ (h : Head). MetFrom kinds new_rows k' h (ledger_trail kinds k' ((k, x) ∷ lines))) (sym head_new)
      (met_put kinds j.rows section no_above o.small k x k' (head_at t.cells i) (ledger_trail kinds k' lines) m)))
      (λ (z : i' ≡ i → ⊥).
      let same : ledger_trail kinds k' ((k, x) ∷ lines) ≡ ledger_trail kinds k' lines = cond-false (bytes_eq (kinds.bytes k) (kinds.bytes k')) _ _ (same_bytes_index kinds n k k' z) in
      subst (λ (w : List V). MetFrom kinds new_rows k' (head_at cells i') w) (sym same)
      (subst (λ (h : Head). MetFrom kinds new_rows k' h (ledger_trail kinds k' lines)) (sym (head_old i' (mod-lt (hash (kinds.bytes k')) o.sound.positive) z))
      (met_from_more kinds k' j.rows new_rows (head_at t.cells i') (ledger_trail kinds k' lines) (extends_append section _ j.rows) (o.trails k'))))
      (cases_eq i' i)

  longest : (r : ℕ) → length (new_rows r) ≤ 2 ^ 63
  longest r =
      ⊎_elim (λ (z : r ≡ section). let m = one_more kinds v t j fits k x ok in
      subst (λ (w : ℕ). length (new_rows w) ≤ 2 ^ 63) (sym z) (subst (λ (w : List (Row K)). length w ≤ 2 ^ 63) (sym (appended_here section _ j.rows)) (simp length-append (omega arith))))
      (λ (z : r ≡ section → ⊥). subst (λ (w : List (Row K)). length w ≤ 2 ^ 63) (sym (appended_there section r _ j.rows z)) (o.small r))
      (cases_eq r section)

  within_new : (g : Option (ℕ × ℕ)) → RangeOk g v.current_section → Within (extended g section) section
  within_new None h = (omega arith, omega arith)
  within_new (Some r) h = let u = section_up v in (omega (arith, h.0, h.1), omega arith)

  within_old : (g : Option (ℕ × ℕ)) (r : ℕ) → RangeOk g v.current_section → Within g r → Within (extended g section) r
  within_old None r h w = absurd w
  within_old (Some g) r h w = let u = section_up v in (w.0, omega (arith, w.1, h.1))

  range_new : (g : Option (ℕ × ℕ)) → RangeOk g v.current_section → RangeOk (extended g section) section
  range_new None h = (omega arith, omega arith)
  range_new (Some r) h = let u = section_up v in (omega (arith, h.0, h.1), omega arith)

  abbrev pub put_row_change : JournalChange K
  put_row_change = append section k (place_section (put_head kinds v t j fits k x)) (place_position (put_head kinds v t j fits k x)) (kinds.encode x)

  abbrev new_journal : JournalMeaning K
  new_journal = apply_row (record_bytes kinds) j put_row_change

  put_unsynced : (r : ℕ) → (length (new_rows r) ≤ new_journal.durable r) ⊎ Within (extended v.modified_sections section) r
  put_unsynced r =
      ⊎_elim (λ (z : r ≡ section). inr (subst (λ (w : ℕ). Within (extended v.modified_sections section) w) (sym z) (within_new v.modified_sections o.range)))
      (λ (z : r ≡ section → ⊥).
      let same : new_rows r ≡ j.rows r = appended_there section r _ j.rows z in
      let old : new_journal.durable r ≡ j.durable r = cond-false (j.eager && eqb r section) _ _ (and_right j.eager _ (ne_eqb r section z)) in
      ⊎_elim (λ (h : length (j.rows r) ≤ j.durable r). inl (subst (λ (w : List (Row K)). length w ≤ new_journal.durable r) (sym same) (subst (λ (m : ℕ). length (j.rows r) ≤ m) (sym old) h)))
      (λ (h : Within v.modified_sections r). inr (within_old v.modified_sections r o.range h))
      (o.unsynced r))
      (cases_eq r section)

  pub put_open : (t' : TableMeaning) → t'.cells ≡ cells → Open kinds (after_put kinds v t j fits k x) t' new_journal ((k, x) ∷ lines) given
  put_open t' same = record {
    sound = subst (λ (w : List Entry). Sound n e v.resize_progress w) (sym same) (record {
      positive = o.sound.positive;
      pairs = put_pair;
      images = put_images n e i s new t.cells b long two v.resize_progress o.sound.images;
    });
    epoch = o.epoch;
    late = o.late;
    power = o.power;
    trails = λ k'. subst (λ (w : List Entry). MetFrom kinds new_rows k' (head_at w (table_index kinds n k')) (ledger_trail kinds k' ((k, x) ∷ lines))) (sym same) (put_trails k');
    above = λ r h. appended_there section r _ j.rows (λ z. omega arith) ∙ no_above r h;
    sections = let u = section_up v in omega (arith, o.sections);
    small = longest;
    unsynced = put_unsynced;
    range = range_new v.modified_sections o.range;
    newer = λ c q. let h = o.newer c q in let u = section_up v in (h.0, h.1, omega (arith, h.2));
  }

  -- none of its changes can harm the checkpoint
  pub put_harmless : (since : List Change) (copy : List (K × V)) (c : Checkpoint) → given ≡ Some c → (g : Based kinds c t since j copy) → HarmlessTo kinds c t since j copy g put_changes (put_row_change ∷ [])
  put_harmless since copy c q g =
      let h = o.newer c q in
      let m = c.table_size in
      let more : m ≤ n = omega (arith, h.1) in
      let fit = now_fits c.epoch m g.heads g.keeps t since g.table in
      let gone : recovered c.epoch new ≡ empty = recovered_later c.epoch new (entry_whole e section (length (j.rows section)) (put_added kinds v t j fits k x) o.epoch) (omega (arith, h.0)) in
      let first : Harmless c.epoch m g.heads g.keeps (write (2 * i + s) new) =
      harmless_slot c.epoch e h.0 n m more g.heads g.keeps t.cells fit o.sound.pairs i b s two new
      (λ l. let r = chosen_loose c.epoch e h.0 (g.heads i) (g.keeps i) (at t.cells (2 * i)) (at t.cells (2 * i + 1)) (fit i l).0 (fit i l).1 (o.sound.pairs i b) in (gone, r.0, r.1)) in
      let second : Harmless c.epoch m g.heads g.keeps (write (put_image kinds v t j fits k x) new) =
      past c.epoch e h.0 n m more g.heads g.keeps t.cells fit o.sound.pairs (put_image kinds v t j fits k x) new (omega arith) in
      ((first, image c.epoch m g.heads g.keeps (mirrors kinds v t j fits k x) second), (let u = section_up v in omega (arith, h.2), tt))
    where
      image : (a m : ℕ) (heads : ℕ → Head) (keeps : ℕ → Bool) (y : Bool) → Harmless a m heads keeps (write (put_image kinds v t j fits k x) new) → AllHarmless a m heads keeps (cond y (write (put_image kinds v t j fits k x) new ∷ []) [])
      image a m heads keeps true z = (z, tt)
      image a m heads keeps false z = tt
