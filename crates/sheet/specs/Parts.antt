-- A part of lent words: where it lies and what stands there. A copy lies elsewhere, and so do the same words of another sheet.
-- Assumes nothing.
use Rattle.std.specs.Prelude.{ℕ, ◌+◌, ◌*◌, List, take, drop}
use Rattle.std.specs.Borrow.{Bor}
use Rattle.sheet.specs.Rows.{header_of, edge_table}

-- a part: the block of memory that it lies in, its offset there in bytes, and its words
pub record Part : Type 0 where
  pub block : ℕ
  pub offset : ℕ
  pub words : List ℕ

-- a lent slice, as a part
abbrev pub lent : Bor (List ℕ) → Part
lent r = record { block = r.ref_ptr.0; offset = r.ref_ptr.1; words = r.now }

-- of a part, n words from word i on, where they lie: a word is four bytes
abbrev pub stretch : Part → ℕ → ℕ → Part
stretch p i n = record { block = p.block; offset = p.offset + 4 * i; words = take n (drop i p.words) }

-- the edge table of a lent sheet, where it lies: from the edge offset on
abbrev pub edge_part : Part → Part
edge_part p = record { block = p.block; offset = p.offset + 4 * (header_of p.words).edgeoffset; words = edge_table p.words }
