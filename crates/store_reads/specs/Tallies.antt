-- How many things of a kind a repository has, and how many bytes they have together.
use Rattle.std.specs.Prelude.{ℕ, ◌+◌, List, filter, length, sum_by}
use Rattle.sqlite.specs.Order.{Row}
use Rattle.oci_types.specs.Text.{Text}
use Rattle.registry_model.specs.declared.quota.Usage.{Usage}
use Rattle.registry_model.specs.World.{World}
use Rattle.registry_model.specs.Lookups.{usage_at}
use Rattle.registry_model.specs.Usage.{in_64_bits}
use Rattle.store_schema.specs.Rows.{natural_at}
use Rattle.store_statements.specs.Keys.{of_first}
use Rattle.store_statements.specs.Tables.{Tables}
use Rattle.store_reads.specs.declared.tallies.Tally.{Tally}
use Rattle.store_reads.specs.declared.tallies.Holdings.{Holdings}

abbrev pub tally_of : List ℕ → Tally
tally_of sizes = record { number = length sizes; bytes = in_64_bits (sum_by (λ n. n) sizes) }

-- of the rows of a repository, whose column 3 is the size
abbrev pub tally_in : List Row → Text → Tally
tally_in rows name = record {
  number = length (filter (of_first name) rows);
  bytes = in_64_bits (sum_by (λ r. natural_at r 3) (filter (of_first name) rows));
}

abbrev pub holdings_in : Tables → Text → Holdings
holdings_in t name = record {
  blobs = tally_in t.blobs name;
  manifests = tally_in t.manifests name;
  sessions = tally_in t.uploads name;
}

-- what a repository of the quota, with so many tags, holds and may hold
abbrev pub usage_from : Holdings → ℕ → ℕ → Usage
usage_from h tags quota = record {
  used = in_64_bits (h.blobs.bytes + h.manifests.bytes + h.sessions.bytes);
  quota = quota;
  blobs = h.blobs.number;
  manifests = h.manifests.number;
  tags = tags;
  sessions = h.sessions.number;
}

-- the repository, with what it holds and may hold
abbrev pub named_usage : World → Text → Text × Usage
named_usage w name = (name, usage_at w name)
