use Rattle.std.proofs.Common.{inl, refl}
use Rattle.sqlite.proofs.Callers.{memory_is_clean}
use Rattle.registry_store.proofs.FilesFound.{idle}
use Rattle.registry_store.proofs.store.Store+MemStore.memory.Goals as goal

pub adopt-requires : goal.adopt-requires
adopt-requires c = record { ours = λ _ _. (idle _ c.in-Ok.ensures.empty.0, inl (record { schema_is = c.in-Ok.ensures.empty.2; empty = tt })) }

pub returns-in-Ok-adopt : goal.returns-in-Ok-adopt
returns-in-Ok-adopt c = record {
  empty = c.in-Ok-adopt.ensures.made (memory_is_clean c.in-Ok-adopt.store.conn) (record { schema_is = c.in-Ok.ensures.empty.2; empty = tt });
  unspent = c.in-Ok-adopt.ensures.unspent;
  wanting = tt;
}

pub returns-in_default : goal.returns-in_default
returns-in_default c = record { empty = tt; unspent = tt; wanting = inl refl }

pub returns : goal.returns
returns c = record {
  empty = tt;
  unspent = tt;
  wanting = c.in-Err.ensures.unmade (memory_is_clean c.in-Err.field-0-1) (record { schema_is = c.in-Ok.ensures.empty.2; empty = tt });
}
