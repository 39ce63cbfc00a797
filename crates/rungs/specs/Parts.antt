-- What functions inside promise of searches and of lent buffers. Nothing here is a sentence of document 01. Assumes nothing.
use Rattle.std.specs.Prelude.{ℕ, unwrap_or, length, replicate}
use Rattle.std.proofs.lemmas.List.Edits.{sets}
use Rattle.rungs.specs.Buffers.{Columns, Buffers}
use Rattle.rungs.specs.declared.Search.{Search}

-- where a search ended: at the place found, or past the last record, all having been looked at
unfoldable pub place_of : Search → ℕ
place_of search = unwrap_or search.place search.looked

-- columns written from the start as far as there is room, where no question 13 has been put
unfoldable pub put_all : Columns → Columns → Columns
put_all b new =
    record {
      words = sets b.words 0 new.words;
      labels = sets b.labels 0 new.labels;
      offsets = sets b.offsets 0 new.offsets;
      lengths = sets b.lengths 0 new.lengths;
    }

-- the same over all five buffers, with times of 0
abbrev pub put_over : Columns → Buffers → Buffers
put_over new b =
    record {
      words = sets b.words 0 new.words;
      labels = sets b.labels 0 new.labels;
      offsets = sets b.offsets 0 new.offsets;
      lengths = sets b.lengths 0 new.lengths;
      times = sets b.times 0 (replicate (length new.labels) 0);
    }
