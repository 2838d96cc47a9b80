-- The hook's partition table is a run of records in kernel memory.
use Rattle.std.specs.Prelude.{ℕ, List, map, length, take}
use Rattle.basis.specs.Words.{padded}
use Rattle.rules.specs.declared.Part.{Part}
use Rattle.rules.specs.declared.Table.{Table}

-- one field of the first n records, in the sixteen places of an array
abbrev pub column : ℕ → (Part → ℕ) → List Part → List ℕ
column n field parts = padded 16 (map field (take n parts))

-- the table with the first n records in it: how many there are is its count, also where they are too many
abbrev pub table_to : ℕ → List Part → Table
table_to n parts = record {
  count = length parts;
  period = column n (λ (p : Part). p.period) parts;
  budget = column n (λ (p : Part). p.budget) parts;
  phase = column n (λ (p : Part). p.phase) parts;
}

-- the records as the core has them
unfoldable pub table_of : List Part → Table
table_of parts = table_to 16 parts
