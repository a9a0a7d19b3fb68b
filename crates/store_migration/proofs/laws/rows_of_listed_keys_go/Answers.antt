use Rattle.store_statements.specs.Keys.{has_key, of_session}
use Rattle.store_migration.proofs.Listed.{keys_go, sessions_go, gone_stays}
use Rattle.store_migration.proofs.laws.rows_of_listed_keys_go.Goals as goal

pub returns : goal.returns
returns c = record { keys = keys_go; sessions = sessions_go; gone_key = λ rows name digest e. gone_stays (has_key name digest) rows e; gone_session = λ rows name number e. gone_stays (of_session name number) rows e }
