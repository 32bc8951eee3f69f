-- How lists are written, and how that of the denied tables is made: each text once, in the order of their bytes.
use Rattle.std.specs.Prelude.{ℕ, if◌then◌else◌, List, [], ◌∷◌, ◌++◌, flat_map, fold, map}
use Rattle.mt_names.specs.Names.{same_text}
use Rattle.mt_model.specs.Documents.{comes_before, denied_texts, keyspace_text, marked}
use Rattle.mt_model.specs.Topology.{KeyspaceState, Marks, TopologyState}
use Rattle.mt_rules.specs.Written.{quoted_item}

-- a text put in its place among others, unless it is there
abbrev pub put_once : List (List ℕ) → List ℕ → List (List ℕ)
put_once [] text = text ∷ []
put_once (t ∷ ts) text = if comes_before text t then text ∷ t ∷ ts else if same_text text t then t ∷ ts else (t ∷ put_once ts text)

-- the denied tables of all keyspaces, each once and in the order of the texts
abbrev pub denied_in_order : TopologyState → List (List ℕ)
denied_in_order t = fold put_once [] (flat_map denied_texts t.keyspaces)

-- the names that are marked, each behind a text, as items of a list
abbrev pub items_behind : List ℕ → Marks → List (List ℕ × List ℕ)
items_behind before marks = map (λ table. quoted_item (before ++ table)) (marked marks)

-- the text of a keyspace, under its name
abbrev pub keyspace_item : List ℕ × KeyspaceState → List ℕ × List ℕ
keyspace_item k = (k.0, keyspace_text k)
