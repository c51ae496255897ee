use Rattle.std.proofs.Common.{◌≡◌, ℕ, List, length, set, sym, ap, ◌∙◌, rules}
use Rattle.table.specs.declared.entry.Entry.{Entry}
use Rattle.table.specs.Entries.{empty}
use Rattle.table.specs.Lent.{entries_in, byte_means}
use Rattle.table.specs.Store.{TableMeaning, write_after}
use Rattle.table.proofs.InBytes.{entries_length}
use Rattle.table.proofs.tests.lent_back.Goals as goal

-- one entry of two was written
written_back : (x held bs now : List ℕ) (k n : ℕ) (e : Entry) → x ≡ held → now ≡ bs → n ≡ 2 → byte_means held k ≡ write_after (byte_means now n) 1 e → entries_in 2 x ≡ set (entries_in 2 bs) 1 e
written_back x held bs now k n e p q r w =
    let v : byte_means held k ≡ write_after (byte_means bs 2) 1 e = w ∙ (λ i. write_after (byte_means (q i) (r i)) 1 e) in
    let two : k ≡ 2 = sym (entries_length held k) ∙ ap (λ (t : TableMeaning). length t.cells) v in
    ap (entries_in 2) p ∙ ap (λ m. entries_in m held) (sym two) ∙ ap (λ (t : TableMeaning). t.cells) v

pub returns : goal.returns
returns c =
    let tie : c.write.new.self.bytes.ghost_name ≡ c.new-table.result.bytes.ghost_name = cc in
    written_back _ c.write.new.self.bytes.now c.args.bytes.now c.new-table.result.bytes.now c.write.new.self.entries c.new-table.result.entries empty
    (search rules) c.new-table.ensures.bytes c.new-table.ensures.entries c.write.ensures.after
