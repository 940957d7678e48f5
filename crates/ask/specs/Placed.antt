-- Where a question's person, deed and folio stand.
-- Assumes nothing.
use Rattle.std.specs.Prelude.{ℕ, ◌<◌, ◌≡◌, Bool, true, List}
use Rattle.sheet.specs.Rows.{header_of, node_key_at}
use Rattle.meaning.specs.Paths.{person, folio}
use Rattle.question.specs.declared.Question.{Question}
use Rattle.question.specs.Asked.{stands, known}

-- row i has the type and the number, which the office knows, or any office where `any` says so
pub record KnownRow (s : List ℕ) (any : Bool) (office class number i : ℕ) : Type 0 where
  pub known : known s any office class number ≡ true
  pub inside : i < (header_of s).nodes
  pub stands : stands s any office class number i ≡ true

-- the rows of the question's person and folio, and that its deed is one
pub record Placed (s : List ℕ) (q : Question) (rp rf : ℕ) : Type 0 where
  pub person-in : rp < (header_of s).nodes
  pub person-is : node_key_at s rp ≡ person q.person
  pub folio-in : rf < (header_of s).nodes
  pub folio-is : node_key_at s rf ≡ folio q.folio
  pub deed-some : q.deed ≡ 0 → ⊥
