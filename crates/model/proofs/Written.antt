-- Steps of runs that are written out: calls that are done, and crashes that leave what was durable.
use Rattle.std.proofs.Common.{◌≡◌, ℕ, zero, suc, ◌≤◌, Bool, List, [], ◌∷◌, length, take, Some, None, sym, refl, ap, ◌∙◌, subst, inl, append-nil, arith}
use Rattle.codec.specs.Kinds.{Kinds}
use Rattle.codec.specs.declared.serial.Serial.{Serial}
use Rattle.codec.specs.declared.window.Window.{Window}
use Rattle.table.specs.Store.{Change, write, resize, sync}
use Rattle.journal.specs.Rows.{Row, appended}
use Rattle.model.specs.declared.Numbers.{Numbers}
use Rattle.model.specs.Runs.{Module, done, Call, Step, did, calls, opens, init, open_effect, init_effect, after_done, Crashed, Among, lengths, taken_back}
use Rattle.model.specs.declared.Settings.{Settings}
use Rattle.model.specs.Cases.{ModuleOfWindows, windows}
use Rattle.model.proofs.Chains.{appended_there}

-- ---- calls

pub does : (m n : ModuleOfWindows) (v : Numbers) (c : Call Serial Window) (fits : Bool) → m.freezer ≡ Some v → after_done windows m c (open_effect windows v m c fits) ≡ n → Step windows m (done c fits) n
does m n v c fits q e = subst (λ (w : ModuleOfWindows). Step windows m (done c fits) w) e (did c fits _ (calls v c fits q))

pub restarts : (m n : ModuleOfWindows) (s : Settings) (fits : Bool) → m.freezer ≡ None → after_done windows m (init s) (init_effect windows m s) ≡ n → Step windows m (done (init s) fits) n
restarts m n s fits q e = subst (λ (w : ModuleOfWindows). Step windows m (done (init s) fits) w) e (did (init s) fits _ (opens s fits q))

-- ---- a crash that leaves the durable entries and rows

module _ {K V : Type 0} (kinds : Kinds K V) (m : Module K V) (sections : ℕ) where
  abbrev pub fallen : Module K V
  fallen = record {
    freezer = None;
    table = record { cells = m.table.durable; durable = m.table.durable; most = m.table.most; eager = m.table.eager; asked = m.table.asked };
    since = [];
    journal = record {
      rows = λ s. take (m.journal.durable s) (m.journal.rows s);
      durable = λ s. length (take (m.journal.durable s) (m.journal.rows s));
      sections = sections;
      eager = m.journal.eager;
      asked = m.journal.asked;
    };
    latest = m.latest;
    ledger = taken_back m.ledger;
  }

  first_length : (n : ℕ) (since : List Change) → Among n (lengths n since)
  first_length n [] = inl refl
  first_length n (write k e ∷ cs) = first_length n cs
  first_length n (resize k ∷ cs) = inl refl
  first_length n (sync ∷ cs) = first_length n cs

  pub falls : ((s : ℕ) → sections ≤ s → m.journal.rows s ≡ []) → ((s : ℕ) → sections ≡ suc s → fallen.journal.rows s ≡ [] → ⊥) → Crashed kinds m m.table m.since m.journal fallen
  falls above highest = record {
    freezer = refl;
    table = record { held = first_length (length m.table.durable) m.since; entries = λ i h. inl refl; durable = refl; most = refl; eager = refl; asked = refl };
    since = refl;
    journal = record {
      more = λ s. [];
      rows = λ s. sym (append-nil (take (m.journal.durable s) (m.journal.rows s)));
      only = λ s h. refl;
      durable = λ s. refl;
      above = λ s h. ap (take (m.journal.durable s)) (above s h) ∙ take_none (m.journal.durable s);
      highest = highest;
      eager = refl;
      asked = refl;
    };
    latest = refl;
    ledger = refl;
  }
    where
      take_none : (n : ℕ) → take {A = Row K} n [] ≡ []
      take_none zero = refl
      take_none (suc n) = refl

-- ---- rows in section 0 alone

pub zero_alone : {K : Type 0} (rows : ℕ → List (Row K)) (r : Row K) → ((s : ℕ) → 1 ≤ s → rows s ≡ []) → (s : ℕ) → 1 ≤ s → appended 0 r rows s ≡ []
zero_alone rows r h s l = appended_there 0 s r rows (λ z. omega arith) ∙ h s l
