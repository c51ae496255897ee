-- init: at the latest checkpoint it is refused for its settings alone, and gives back what the checkpoint had.
use Rattle.std.proofs.Common.{◌≡◌, ℕ, zero, suc, ◌+◌, ◌*◌, ◌/◌, ◌%◌, ◌^◌, ◌<◌, ◌≤◌, min, Bool, true, false, cond, not, eqb, ltb, List, [], ◌∷◌, ◌++◌, length, Some, None, Option, sym, refl, ap, ◌∙◌, subst, ap₂, inl, ⊎_elim, mul-le-mul_right, mod-lt, arith, length-set}
use native.Mathlib.Nat.{mul-mod_left}
use lib.Count.{ones, ones_in}
use Rattle.std.proofs.lemmas.Bool.{eq-eqb, ne_eqb, eqb-true, le-ltb, lt-leb, cond-true, cond-false, cases_eq, and_left, both_ways, not_from_true, not-false, or_from}
use Rattle.codec.specs.Kinds.{Kinds, record_bytes}
use Rattle.table.specs.declared.entry.Entry.{Entry}
use Rattle.table.specs.declared.pair.Head.{Head}
use Rattle.table.specs.Entries.{empty, head}
use Rattle.table.specs.Store.{TableMeaning, Change, write, resize, sync, at, resized, apply_all}
use Rattle.journal.specs.Rows.{Row, JournalMeaning, restore, none_there, trimmed, apply_all as apply_journal}
use Rattle.model.specs.declared.Settings.{Settings}
use Rattle.model.specs.declared.Checkpoint.{Checkpoint}
use Rattle.model.specs.declared.Fault.{Fault}
use Rattle.model.specs.declared.Fault.TheVariants.{InitialSize}
use Rattle.model.specs.Common.{refuse, ◌then◌, of_journal, each, lowest, or_else, last, power_of_two, table_index, head_at}
use Rattle.model.specs.Init.{is_empty_checkpoint, resumed, settings_fault, start_fault, recover_entry, recovered, empty_entry, empty_pair, recover_stop, fit_length, with_sync, recover_table, recover_by, start_numbers, start_table, start_journal}
use Rattle.model.specs.Law.{MetFrom, ledger_trail}
use Rattle.model.proofs.Choice.{Pair, neither, recovered_fits, RecoveredPair, pair_is_equal, pair_later, emptied_loose, Loose}
use Rattle.model.proofs.Replay.{changed_all, changed_append, at_set, at_set_other, at_resized, at_added, length_resized}
use Rattle.model.proofs.Safe.{now_fits, now_long, AllHarmless, harmless_append}
use Rattle.model.proofs.Chains.{met_from_more, extends_same}
use Rattle.model.proofs.Chunk.{Sound}
use Rattle.model.proofs.Holds.{Open, Based, HarmlessTo, kept_after}
use Rattle.model.proofs.Puts.{refuse_no, then_left}

pub power_positive : (n : ℕ) → power_of_two n ≡ true → 0 < n
unfolding ones ones_in
power_positive zero h = absurd (both_ways false refl h)
power_positive (suc n) h = omega arith

pub lowest_none : (n : ℕ) (f : ℕ → Bool) → ((i : ℕ) → i < n → f i ≡ false) → lowest n f ≡ None
lowest_none zero f h = refl
lowest_none (suc n) f h = ap₂ (λ (x : Option ℕ) (b : Bool). or_else x (cond b (Some n) None)) (lowest_none n f (λ i l. h i (omega arith))) (h n (omega arith))

trimmed_le : {K : Type 0} (n : ℕ) (rows : ℕ → List (Row K)) → trimmed n rows ≤ n
trimmed_le zero rows = omega arith
trimmed_le (suc n) rows = by (none_there (rows n)) (trimmed_le n rows)
  where
    by : (b : Bool) → trimmed n rows ≤ n → cond b (trimmed n rows) (suc n) ≤ suc n
    by true h = omega arith
    by false h = omega arith

-- ---- what it empties

changed_sync : (xs : List Entry) (cs : List Change) → changed_all xs (with_sync cs) ≡ changed_all xs cs
changed_sync xs [] = refl
changed_sync xs (c ∷ cs) = changed_append xs (c ∷ cs) (sync ∷ [])

record Fitted (n : ℕ) (cells new : List Entry) : Type 0 where
  pub len : length new ≡ n
  pub same : (i : ℕ) → i < n → at new i ≡ at cells i

fitted : (n : ℕ) (cells : List Entry) → n ≤ length cells → Fitted n cells (changed_all cells (fit_length n cells))
fitted n cells l = by (eqb (length cells) n) refl
  where
    by : (b : Bool) → eqb (length cells) n ≡ b → Fitted n cells (changed_all cells (cond b [] (resize n ∷ [])))
    by true q = record { len = eqb-true (length cells) n q; same = λ i h. refl }
    by false q = record { len = length_resized n cells; same = λ i h. at_resized n cells i h (omega arith) }

module _ (c : ℕ) (cells : List Entry) where
  record EmptiedOne (ws new : List Entry) (m : ℕ) : Type 0 where
    pub len : length new ≡ length ws
    pub here : at new m ≡ recovered c (at cells m)
    pub other : (i : ℕ) → (i ≡ m → ⊥) → at new i ≡ at ws i

  emptied_one : (ws : List Entry) (m : ℕ) → m < length ws → at ws m ≡ at cells m → EmptiedOne ws (changed_all ws (empty_entry c cells m)) m
  emptied_one ws m l q = by (recover_entry c (at cells m)) refl
    where
      by : (b : Bool) → recover_entry c (at cells m) ≡ b → EmptiedOne ws (changed_all ws (cond b (write m empty ∷ []) [])) m
      by true z = record { len = length-set ws m empty; here = at_set ws m empty l ∙ sym (cond-true (recover_entry c (at cells m)) empty (at cells m) z); other = λ i f. at_set_other ws m i empty f }
      by false z = record { len = refl; here = q ∙ sym (cond-false (recover_entry c (at cells m)) empty (at cells m) z); other = λ i f. refl }

  record Emptied (ws new : List Entry) (d : ℕ) : Type 0 where
    pub len : length new ≡ length ws
    pub low : (i : ℕ) → i < d → (at new (2 * i) ≡ recovered c (at cells (2 * i))) × (at new (2 * i + 1) ≡ recovered c (at cells (2 * i + 1)))
    pub other : (m : ℕ) → 2 * d ≤ m → at new m ≡ at ws m

  emptied : (ws : List Entry) (d : ℕ) → 2 * d ≤ length ws → ((i : ℕ) → i < 2 * d → at ws i ≡ at cells i) → Emptied ws (changed_all ws (each d (empty_pair c cells))) d
  emptied ws zero l same = record { len = refl; low = λ i h. absurd (omega arith); other = λ m h. refl }
  emptied ws (suc d) l same =
      let mid = changed_all ws (each d (empty_pair c cells)) in
      let r = emptied ws d (omega arith) (λ i h. same i (omega arith)) in
      let rl : length mid ≡ length ws = r.len in
      let one = emptied_one mid (2 * d) (omega arith) (r.other (2 * d) (omega arith) ∙ same (2 * d) (omega arith)) in
      let w1 = changed_all mid (empty_entry c cells (2 * d)) in
      let l1 : length w1 ≡ length mid = one.len in
      let two = emptied_one w1 (2 * d + 1) (omega arith) (one.other (2 * d + 1) (λ z. omega arith) ∙ r.other (2 * d + 1) (omega arith) ∙ same (2 * d + 1) (omega arith)) in
      let new = changed_all w1 (empty_entry c cells (2 * d + 1)) in
      let e : changed_all ws (each (suc d) (empty_pair c cells)) ≡ new = changed_append ws (each d (empty_pair c cells)) (empty_pair c cells d) ∙ changed_append mid (empty_entry c cells (2 * d)) (empty_entry c cells (2 * d + 1)) in
      subst (λ (w : List Entry). Emptied ws w (suc d)) (sym e) (record {
        len = two.len ∙ one.len ∙ r.len;
        low = λ i h. ⊎_elim
            (λ (z : i ≡ d). subst (λ (k : ℕ). (at new (2 * k) ≡ recovered c (at cells (2 * k))) × (at new (2 * k + 1) ≡ recovered c (at cells (2 * k + 1)))) (sym z) (two.other (2 * d) (λ y. omega arith) ∙ one.here, two.here))
            (λ (z : i ≡ d → ⊥). let g = r.low i (omega arith) in
            (two.other (2 * i) (λ y. omega arith) ∙ one.other (2 * i) (λ y. z (omega arith)) ∙ g.0, two.other (2 * i + 1) (λ y. z (omega arith)) ∙ one.other (2 * i + 1) (λ y. omega arith) ∙ g.1))
            (cases_eq i d);
        other = λ m h. two.other m (λ y. omega arith) ∙ one.other m (λ y. omega arith) ∙ r.other m (omega arith);
      })

-- ---- init at the latest checkpoint

module _ {K V : Type 0} (kinds : Kinds K V) (s : Settings) (c : Checkpoint) (t : TableMeaning) (since : List Change) (j : JournalMeaning K) (copy : List (K × V)) (b : Based kinds c t since j copy) where
  abbrev n : ℕ
  n = c.table_size

  abbrev rb : ℕ
  rb = record_bytes kinds

  fit : (i : ℕ) → i < n → RecoveredPair c.epoch (b.heads i) (at t.cells (2 * i)) (at t.cells (2 * i + 1))
  fit i h = let f = now_fits c.epoch n b.heads b.keeps t since b.table i h in recovered_fits c.epoch (b.heads i) (b.keeps i) (at t.cells (2 * i)) (at t.cells (2 * i + 1)) f.0 f.1

  long : 2 * n ≤ length t.cells
  long = now_long c.epoch n b.heads b.keeps t since b.table

  pub no_stop : recover_stop c t.cells ≡ None
  no_stop = lowest_none n _ (λ i h. pair_is_equal c.epoch _ _ (fit i h).pair)

  pub not_empty : resumed (Some c) ≡ Some c
  not_empty = cond-false (is_empty_checkpoint c) None (Some c) (and_left (eqb c.epoch 0) _ (ne_eqb c.epoch 0 (λ z. omega (arith, b.epoch))))

  refuse_none : (x : Bool) (f : Fault) → x ≡ false → refuse x f ≡ None
  refuse_none x f q = cond-false x (Some f) None q

  both_none : (x y : Option Fault) → x ≡ None → y ≡ None → (x then y) ≡ None
  both_none x y p q = ap₂ (λ (a b : Option Fault). a then b) p q

  pub no_fault : start_fault kinds s t j (Some c) ≡ None
  no_fault =
      let w = b.whole_records in
      let g = mul-le-mul_right rb b.rows.there in
      both_none _ _ (refuse_none _ _ (not_from_true _ b.power))
      (both_none _ _ (refuse_none _ _ (lt-leb last c.epoch b.early))
      (both_none _ _ (refuse_none _ _ (le-ltb (length t.cells) (2 * n) long))
      (ap of_journal (cond-false _ _ None (or_from (ltb (length (j.rows c.section) * rb) c.journal_bytes) _ (le-ltb _ _ (omega arith))
      (not_from_true _ (eq-eqb _ _ (ap (λ (m : ℕ). m % rb) w ∙ mul-mod_left (c.journal_bytes / rb) rb))))))))

  abbrev pub recover_changes : List Change
  recover_changes = with_sync (fit_length (2 * n) t.cells ++ each n (empty_pair c.epoch t.cells))

  pub changes_are : recover_table c t.cells ≡ recover_changes
  changes_are = ap (recover_by c t.cells) no_stop

  abbrev ws : List Entry
  ws = changed_all t.cells (fit_length (2 * n) t.cells)

  abbrev new : List Entry
  new = changed_all ws (each n (empty_pair c.epoch t.cells))

  cells_are : changed_all t.cells recover_changes ≡ new
  cells_are =
      let empties = each n (empty_pair c.epoch t.cells) in
      changed_sync t.cells (fit_length (2 * n) t.cells ++ empties) ∙ changed_append t.cells (fit_length (2 * n) t.cells) empties

  fits_length : Fitted (2 * n) t.cells ws
  fits_length = fitted (2 * n) t.cells long

  all_emptied : Emptied c.epoch t.cells ws new n
  all_emptied = let l = fits_length.len in emptied c.epoch t.cells ws n (omega arith) fits_length.same

  new_pair : (i : ℕ) → i < n → Pair c.epoch (at new (2 * i)) (at new (2 * i + 1))
  new_pair i h =
      let g = all_emptied.low i h in
      subst (λ (a : Entry). Pair c.epoch a (at new (2 * i + 1))) (sym g.0) (subst (λ (a : Entry). Pair c.epoch (recovered c.epoch (at t.cells (2 * i))) a) (sym g.1) (fit i h).pair)

  new_head : (i : ℕ) → i < n → head_at new i ≡ b.heads i
  new_head i h = let g = all_emptied.low i h in ap₂ (λ (x y : Entry). head x y) g.0 g.1 ∙ (fit i h).head

  abbrev after : JournalMeaning K
  after = apply_journal rb j (restore c.section c.journal_bytes ∷ [])

  rows_are : (r : ℕ) → after.rows r ≡ b.base r
  rows_are r = b.rows.same r

  pub restart_open : (given : Option Checkpoint) (t' : TableMeaning) → t'.cells ≡ changed_all t.cells recover_changes → Open kinds (start_numbers kinds s given t j (Some c)) t' after copy (Some c)
  restart_open given t' e =
      let same : t'.cells ≡ new = e ∙ cells_are in
      record {
        sound = subst (λ (w : List Entry). Sound n (c.epoch + 1) None w) (sym same) (record {
          positive = b.positive;
          pairs = λ i h. pair_later c.epoch (at new (2 * i)) (at new (2 * i + 1)) (new_pair i h);
          images = all_emptied.len ∙ fits_length.len;
        });
        epoch = omega arith;
        late = omega (arith, b.early);
        power = b.power;
        trails = λ k. subst (λ (w : List Entry). MetFrom kinds after.rows k (head_at w (table_index kinds n k)) (ledger_trail kinds k copy)) (sym same)
            (subst (λ (h : Head). MetFrom kinds after.rows k h (ledger_trail kinds k copy)) (sym (new_head (table_index kinds n k) (mod-lt _ b.positive)))
            (met_from_more kinds k b.base after.rows _ (ledger_trail kinds k copy) (extends_same b.base after.rows (λ r. sym (rows_are r))) (b.trails k)));
        above = λ r h. kept_after rb c.section c.journal_bytes (c.journal_bytes / rb) r j.rows h;
        sections = let m = trimmed_le (min j.sections (suc c.section)) after.rows in omega arith;
        small = λ r. subst (λ (w : List (Row K)). length w ≤ 2 ^ 63) (sym (rows_are r)) (b.small r);
        unsynced = λ r. inl (omega arith);
        range = tt;
        newer = λ d q. let h : c ≡ d = cc in subst (λ (d : Checkpoint). (c.epoch + 1 ≡ suc d.epoch) × (d.table_size ≡ n) × (d.section ≤ c.section)) h (omega arith, refl, omega arith);
      }

  -- none of its changes can harm the checkpoint
  abbrev All : List Change → Type 0
  All cs = AllHarmless c.epoch n b.heads b.keeps cs

  emptied_0 : (i : ℕ) → i < n → (y : Bool) → recover_entry c.epoch (at t.cells (2 * i)) ≡ y → All (cond y (write (2 * i) empty ∷ []) [])
  emptied_0 i h true z =
      let f = now_fits c.epoch n b.heads b.keeps t since b.table i h in
      let l = emptied_loose c.epoch (b.heads i) (b.keeps i) (at t.cells (2 * i)) f.0 z in
      (λ k g. (λ w. let m : i ≡ k = omega arith in (refl, subst (λ (x : ℕ). Loose c.epoch (b.heads x) (b.keeps x)) m l), λ w. absurd (omega arith)), tt)
  emptied_0 i h false z = tt

  emptied_1 : (i : ℕ) → i < n → (y : Bool) → recover_entry c.epoch (at t.cells (2 * i + 1)) ≡ y → All (cond y (write (2 * i + 1) empty ∷ []) [])
  emptied_1 i h true z =
      let f = now_fits c.epoch n b.heads b.keeps t since b.table i h in
      let l = emptied_loose c.epoch (b.heads i) (not (b.keeps i)) (at t.cells (2 * i + 1)) f.1 z in
      (λ k g. (λ w. absurd (omega arith), λ w. let m : i ≡ k = omega arith in (refl, subst (λ (x : ℕ). Loose c.epoch (b.heads x) (not (b.keeps x))) m l)), tt)
  emptied_1 i h false z = tt

  emptied_each : (d : ℕ) → d ≤ n → All (each d (empty_pair c.epoch t.cells))
  emptied_each zero l = tt
  emptied_each (suc d) l =
      harmless_append c.epoch n b.heads b.keeps (each d (empty_pair c.epoch t.cells)) (empty_pair c.epoch t.cells d) (emptied_each d (omega arith))
      (harmless_append c.epoch n b.heads b.keeps (empty_entry c.epoch t.cells (2 * d)) (empty_entry c.epoch t.cells (2 * d + 1))
      (emptied_0 d (omega arith) (recover_entry c.epoch (at t.cells (2 * d))) refl) (emptied_1 d (omega arith) (recover_entry c.epoch (at t.cells (2 * d + 1))) refl))

  fit_harmless : (y : Bool) → All (cond y [] (resize (2 * n) ∷ []))
  fit_harmless true = tt
  fit_harmless false = (omega arith, tt)

  sync_too : (cs : List Change) → All cs → All (with_sync cs)
  sync_too [] h = tt
  sync_too (d ∷ cs) h = harmless_append c.epoch n b.heads b.keeps (d ∷ cs) (sync ∷ []) h (tt, tt)

  pub restart_harmless : HarmlessTo kinds c t since j copy b recover_changes (restore c.section c.journal_bytes ∷ [])
  restart_harmless = (
    sync_too _ (harmless_append c.epoch n b.heads b.keeps (fit_length (2 * n) t.cells) _ (fit_harmless (eqb (length t.cells) (2 * n))) (emptied_each n (omega arith))),
    ((refl, refl), tt),
  )

-- ---- a fresh init

module _ {K V : Type 0} (kinds : Kinds K V) (s : Settings) (given : Option Checkpoint) (t : TableMeaning) (j : JournalMeaning K) (ok : settings_fault s ≡ None) where
  abbrev fresh_size : ℕ
  fresh_size = s.initial_size

  power : power_of_two fresh_size ≡ true
  power = not-false (power_of_two fresh_size) (refuse_no _ InitialSize (then_left (refuse (not (power_of_two fresh_size)) InitialSize) _ ok))

  abbrev blank : List Entry
  blank = resized (2 * fresh_size) (resized 0 t.cells)

  at_blank : (i : ℕ) → at blank i ≡ empty
  at_blank i = let l = length_resized 0 t.cells in at_added (2 * fresh_size) (resized 0 t.cells) i (omega arith)

  pub fresh_open : Open kinds (start_numbers kinds s given t j None) (apply_all t (start_table kinds s given t j None)) (apply_journal (record_bytes kinds) j (start_journal kinds s given t j None)) [] None
  fresh_open = record {
    sound = record {
      positive = power_positive fresh_size power;
      pairs = λ i h. neither (at_blank (2 * i)) (at_blank (2 * i + 1));
      images = length_resized (2 * fresh_size) (resized 0 t.cells);
    };
    epoch = omega arith;
    late = omega arith;
    power = power;
    trails = λ k. let i = table_index kinds fresh_size k in
        subst (λ (h : Head). MetFrom kinds (λ (r : ℕ). []) k h []) (sym (ap₂ (λ (x y : Entry). head x y) (at_blank (2 * i)) (at_blank (2 * i + 1)))) refl;
    above = λ r h. refl;
    sections = omega arith;
    small = λ r. omega arith;
    unsynced = λ r. inl (omega arith);
    range = tt;
    newer = λ d q. let z : ◌≡◌ {A = ℕ} 0 1 = cc in (omega arith, omega arith, omega arith);
  }
