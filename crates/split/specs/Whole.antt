-- What a split journal holds and means.
use Rattle.std.specs.Prelude.{ℕ, Bool, List}
use Rattle.codec.specs.declared.decoded.DecodedKey.{Ghosts as DecodedMembers}
use Rattle.codec.specs.declared.key.Key.{Ghosts as KeyMembers}
use Rattle.journal.specs.Rows.{JournalMeaning}
use Rattle.split.specs.declared.store.SplitJournal.{SplitJournal}
use Rattle.split.specs.Parts.{Part, split_means, split_parts, split_space}

module _ {K : Type 0} {d : DecodedMembers K} {k : KeyMembers K} (j : SplitJournal K d k) where
  -- the sections that its memory holds
  abbrev pub parts : List (Part K)
  parts = split_parts d.decoding k.WIDTH j.used j.directory.now j.records.now j.values.now

  -- what it means
  abbrev pub meaning : JournalMeaning K
  meaning = split_means d.decoding k.WIDTH j.used j.directory.now j.records.now j.values.now

  -- is there space in a section for a row with a value of so many bytes
  abbrev pub space : ℕ → ℕ → Bool
  space = split_space d.decoding k.WIDTH j.used j.directory.now j.records.now j.values.now
