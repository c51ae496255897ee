-- Chains of rows: under an append, and as get and has walk them.
use Rattle.std.proofs.Common.{◌≡◌, ℕ, zero, suc, ◌+◌, ◌^◌, ◌<◌, ◌≤◌, Bool, true, false, cond, ◌&&◌, eqb, ltb, List, [], ◌∷◌, ◌++◌, length, take, Some, None, Ok, Err, Option, Result, sym, refl, ap, ◌∙◌, subst, ⊎_elim, arith}
use Rattle.std.specs.Str.{bytes_eq}
use Rattle.std.proofs.lemmas.Bool.{eq-eqb, ne_eqb, eqb-true, lt-ltb, ltb-true, and_from, and_parts, and_right, or_left, or_right, or_cases, cond-true, cond-false, cases_eq, cases_lt}
use Rattle.codec.specs.Kinds.{Kinds, Lawful}
use Rattle.table.specs.declared.pair.Head.{Head}
use Rattle.table.specs.declared.pair.Head.TheVariants.{Vacant as none, Latest as latest, Equal as equal}
use Rattle.journal.specs.Places.{place}
use Rattle.journal.specs.declared.fault.Cursor.{Cursor}
use Rattle.journal.specs.Rows.{Row, JournalMeaning, row_at, stored_bytes, stored_of, appended, value_answer}
use Rattle.journal.proofs.RowsBack.{row_last, appended_here}
use Rattle.model.specs.declared.Fault.{Fault}
use Rattle.model.specs.declared.Fault.TheVariants.{NotEarlier}
use Rattle.model.specs.Common.{last, earlier}
use Rattle.model.specs.Put.{place_section, place_position}
use Rattle.model.specs.Lookup.{has_no_next, rows_below, met, walk, walk_from}
use Rattle.model.specs.Law.{AddsBy, Met, ends, goes, MetFrom}
use Rattle.model.proofs.Values.{value_found}

-- ---- rows by position

module _ {K : Type 0} where
  pub row_lt : (rs : List (Row K)) (p : ℕ) (r : Row K) → row_at rs p ≡ Some r → p < length rs
  row_lt [] p r q = let z : ◌≡◌ {A = ℕ} 0 1 = cc in omega arith
  row_lt (r' ∷ rs) zero r q = omega arith
  row_lt (r' ∷ rs) (suc p) r q = let h = row_lt rs p r q in omega arith

  pub row_left : (xs ys : List (Row K)) (p : ℕ) (r : Row K) → row_at xs p ≡ Some r → row_at (xs ++ ys) p ≡ Some r
  row_left [] ys p r q = cc
  row_left (x ∷ xs) ys zero r q = q
  row_left (x ∷ xs) ys (suc p) r q = row_left xs ys p r q

  -- every row of the first is a row of the second
  abbrev pub Extends : (ℕ → List (Row K)) → (ℕ → List (Row K)) → Type 0
  Extends rows more = (s p : ℕ) (r : Row K) → row_at (rows s) p ≡ Some r → row_at (more s) p ≡ Some r

  pub extends_same : (rows more : ℕ → List (Row K)) → ((s : ℕ) → rows s ≡ more s) → Extends rows more
  extends_same rows more e s p r q = ap (λ (w : List (Row K)). row_at w p) (sym (e s)) ∙ q

  pub extends_append : (s : ℕ) (r : Row K) (rows : ℕ → List (Row K)) → Extends rows (appended s r rows)
  extends_append s r rows i p x q = by (eqb i s)
    where
      by : (b : Bool) → row_at (cond b (rows i ++ (r ∷ [])) (rows i)) p ≡ Some x
      by true = row_left (rows i) (r ∷ []) p x q
      by false = q

  pub appended_there : (s i : ℕ) (r : Row K) (rows : ℕ → List (Row K)) → (i ≡ s → ⊥) → appended s r rows i ≡ rows i
  appended_there s i r rows n = cond-false (eqb i s) _ _ (ne_eqb i s n)

-- ---- chains in more rows

module _ {K V : Type 0} (kinds : Kinds K V) (k : K) where
  pub met_more : {rows more : ℕ → List (Row K)} {s p : ℕ} {all : List V} → Extends rows more → Met kinds rows k s p all → Met kinds more k s p all
  met_more e (ends s p r all q n a) = ends s p r all (e s p r q) n a
  met_more e (goes s p r rest all q n l m a) = goes s p r rest all (e s p r q) n l (met_more e m) a

  pub met_from_more : (rows more : ℕ → List (Row K)) (H : Head) (all : List V) → Extends rows more → MetFrom kinds rows k H all → MetFrom kinds more k H all
  met_from_more rows more none all e m = m
  met_from_more rows more (latest h) all e m = met_more e m
  met_from_more rows more equal all e m = m

  pub met_row : (rows : ℕ → List (Row K)) {s p : ℕ} {all : List V} → Met kinds rows k s p all → (r : Row K) × (row_at (rows s) p ≡ Some r)
  met_row rows (ends s p r all q n a) = (r, q)
  met_row rows (goes s p r rest all q n l m a) = (r, q)

-- ---- a row put before a chain

earlier_from : (s p section position : ℕ) → s ≤ section → (s ≡ section → p < position) → earlier s p section position ≡ true
earlier_from s p section position h f =
    ⊎_elim (λ (e : s ≡ section). or_right (ltb s section) _ (and_from (eqb s section) _ (eq-eqb s section e) (lt-ltb p position (f e))))
    (λ (n : s ≡ section → ⊥). or_left (ltb s section) _ (lt-ltb s section (omega arith)))
    (cases_eq s section)

module _ {K V : Type 0} (kinds : Kinds K V) (rows : ℕ → List (Row K)) (section : ℕ)
    (above : (s : ℕ) → section < s → rows s ≡ []) (small : (s : ℕ) → length (rows s) ≤ 2 ^ 63) (k : K) (x : V) where
  abbrev pub row_of : Head → Row K
  row_of H = record { key = k; next_section = place_section H; next_position = place_position H; stored = stored_of (kinds.encode x) }

  adds : (k' : K) (r : Row K) (b : Bool) (rest : List V) → r.stored ≡ stored_of (kinds.encode x) → AddsBy kinds rows k' b r rest (cond b (x ∷ rest) rest)
  adds k' r true rest e = (x, e, refl)
  adds k' r false rest e = refl

  new_row : (H : Head) → row_at (appended section (row_of H) rows section) (length (rows section)) ≡ Some (row_of H)
  new_row H = ap (λ (w : List (Row K)). row_at w (length (rows section))) (appended_here section (row_of H) rows) ∙ row_last (rows section) (row_of H)

  at_most : (s p : ℕ) (r : Row K) → row_at (rows s) p ≡ Some r → s ≤ section
  at_most s p r q =
      ⊎_elim (λ (h : section < s). let z : ◌≡◌ {A = Option (Row K)} None (Some r) = ap (λ (w : List (Row K)). row_at w p) (sym (above s h)) ∙ q in let w : ◌≡◌ {A = ℕ} 0 1 = cc in omega arith)
      (λ (h : s ≤ section). h) (cases_lt section s)

  pub met_put : (k' : K) (H : Head) (all : List V) → MetFrom kinds rows k' H all →
      Met kinds (appended section (row_of H) rows) k' section (length (rows section)) (cond (bytes_eq (kinds.bytes k) (kinds.bytes k')) (x ∷ all) all)
  met_put k' none all m =
      ends section (length (rows section)) (row_of none) _ (new_row none) refl
      (subst (λ (w : List V). AddsBy kinds rows k' b (row_of none) [] (cond b (x ∷ w) w)) (sym m) (adds k' (row_of none) b [] refl))
    where
      b : Bool
      b = bytes_eq (kinds.bytes k) (kinds.bytes k')
  met_put k' (latest h) all m =
      let q = met_row kinds k' rows m in
      let l = row_lt (rows h.section) h.position q.0 q.1 in
      let t = small h.section in
      let a = at_most h.section h.position q.0 q.1 in
      goes section (length (rows section)) (row_of (latest h)) all _ (new_row (latest h))
      (and_right (eqb h.section last) _ (ne_eqb h.position last (λ z. omega arith)))
      (earlier_from h.section h.position section (length (rows section)) a (λ e. subst (λ (s : ℕ). h.position < length (rows s)) e l))
      (met_more kinds k' (extends_append section (row_of (latest h)) rows) m)
      (adds k' (row_of (latest h)) (bytes_eq (kinds.bytes k) (kinds.bytes k')) all refl)
  met_put k' equal all m = absurd m

-- ---- a walk along a chain

rows_mono : {K : Type 0} (rows : ℕ → List (Row K)) (a b : ℕ) → a < b → rows_below rows a + length (rows a) ≤ rows_below rows b
rows_mono rows a zero h = absurd (omega arith)
rows_mono rows a (suc b) h =
    ⊎_elim (λ (e : a ≡ b). subst (λ (n : ℕ). rows_below rows n + length (rows n) ≤ rows_below rows b + length (rows b)) (sym e) (omega arith))
    (λ (n : a ≡ b → ⊥). let i = rows_mono rows a b (omega arith) in omega arith)
    (cases_eq a b)

rank_falls : {K : Type 0} (rows : ℕ → List (Row K)) (s p s' p' : ℕ) → earlier s' p' s p ≡ true → p' < length (rows s') → rows_below rows s' + p' < rows_below rows s + p
rank_falls rows s p s' p' e l =
    ⊎_elim (λ (a : ltb s' s ≡ true). let m = rows_mono rows s' s (ltb-true s' s a) in omega arith)
    (λ (a : (eqb s' s && ltb p' p) ≡ true).
    let c = and_parts (eqb s' s) (ltb p' p) a in
    let f = ltb-true p' p c.1 in
    subst (λ (n : ℕ). rows_below rows s' + p' < rows_below rows n + p) (eqb-true s' s c.0) (omega arith))
    (or_cases (ltb s' s) _ e)

module _ {K V : Type 0} (kinds : Kinds K V) (lawful : Lawful kinds) (j : JournalMeaning K) (k : K) where
  -- what a lookup finds where these are the values met
  abbrev pub Finds : List V → Result (Option Cursor) Fault → Type 0
  Finds [] r = r ≡ Ok None
  Finds (x ∷ xs) r = (c : Cursor) × (r ≡ Ok (Some c)) × (value_answer kinds.decode j c ≡ Ok x)

  abbrev here : ℕ → ℕ → Row K → Cursor
  here s p r = record { section = s; offset = stored_bytes (take p (j.rows s)); size = length r.stored }

  finds_one : (s p : ℕ) (r : Row K) (b : Bool) (rest all : List V) (w : Result (Option Cursor) Fault) → row_at (j.rows s) p ≡ Some r →
      AddsBy kinds j.rows k b r rest all → Finds rest w → Finds all (cond b (Ok (Some (here s p r))) w)
  finds_one s p r true rest all w q a f = subst (λ (z : List V). Finds z (Ok (Some (here s p r)))) (sym a.2) (here s p r, refl, value_found kinds lawful j s p r a.0 q a.1)
  finds_one s p r false rest all w q a f = subst (λ (z : List V). Finds z w) (sym a) f

  pub met_walk : {s p : ℕ} {all : List V} → Met kinds j.rows k s p all → (fuel : ℕ) → rows_below j.rows s + p < fuel → Finds all (walk kinds j.rows k fuel s p)
  met_walk (ends s p r all q n a) zero h = absurd (omega arith)
  met_walk (ends s p r all q n a) (suc fuel) h =
      subst (λ (w : Option (Row K)). Finds all (met kinds j.rows k s p (λ a b. walk kinds j.rows k fuel a b) w)) (sym q)
      (finds_one s p r (bytes_eq (kinds.bytes r.key) (kinds.bytes k)) [] all _ q a (cond-true (has_no_next r) _ _ n))
  met_walk (goes s p r rest all q n l m a) zero h = absurd (omega arith)
  met_walk (goes s p r rest all q n l m a) (suc fuel) h =
      let next = met_row kinds k j.rows m in
      let falls = rank_falls j.rows s p r.next_section r.next_position l (row_lt (j.rows r.next_section) r.next_position next.0 next.1) in
      let on : Result (Option Cursor) Fault = walk kinds j.rows k fuel r.next_section r.next_position in
      let same : cond (has_no_next r) (Ok None) (cond (earlier r.next_section r.next_position s p) on (Err (NotEarlier (place s p)))) ≡ on = cond-false (has_no_next r) _ _ n ∙ cond-true (earlier r.next_section r.next_position s p) _ _ l in
      subst (λ (w : Option (Row K)). Finds all (met kinds j.rows k s p (λ a b. walk kinds j.rows k fuel a b) w)) (sym q)
      (finds_one s p r (bytes_eq (kinds.bytes r.key) (kinds.bytes k)) rest all _ q a (subst (λ (w : Result (Option Cursor) Fault). Finds rest w) (sym same) (met_walk m fuel (omega arith))))

  pub met_walk_from : (H : Head) (all : List V) → MetFrom kinds j.rows k H all → Finds all (walk_from kinds j.rows k H)
  met_walk_from none all m = subst (λ (z : List V). Finds z (Ok None)) (sym m) refl
  met_walk_from (latest h) all m = met_walk m (suc (rows_below j.rows h.section + h.position)) (omega arith)
  met_walk_from equal all m = absurd m
