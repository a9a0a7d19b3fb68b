use Rattle.store_migration.proofs.file.migrate.Goals as goal

pub returns : goal.returns
returns g c = record { another = c.migrate_files.ensures.another }
