use Rattle.std.proofs.Common.{inl, inr, refl}
use Rattle.std.specs.String.{string_bytes}
use Rattle.registry_tasks.proofs.telling.tell.Goals as goal

pub returns-then-eq : goal.returns-then-eq
returns-then-eq g c = record { tells = (refl, inl (inr (c.say.ensures.status, c.say.ensures.said, refl))); wanting = λ out. c.say.ensures.status }

pub returns-in_default : goal.returns-in_default
returns-in_default g c = record {
  tells = (refl, inl (inr (c.say-in_default.ensures.status, c.say-in_default.ensures.said, refl)));
  wanting = λ out. c.say-in_default.ensures.status;
}

pub returns-then-use_stderr-clause-tells : goal.returns-then-use_stderr-clause-tells
returns-then-use_stderr-clause-tells g c = (refl, inl (inl (refl, c.as_bytes.result.now, c.write_text.ensures.part, refl)))

pub returns-in-Ok-write_text-clause-tells : goal.returns-in-Ok-write_text-clause-tells
returns-in-Ok-write_text-clause-tells g c =
    let told = rw c.as_bytes-else-use_stderr.ensures.value at c.in-Ok-write_text.ensures.whole in
    (refl, inr (inl (refl, string_bytes c.in-Ok.text, told, refl)))

pub returns-clause-tells : goal.returns-clause-tells
returns-clause-tells g c =
    (refl, inr (inr (c.say-in-Err.ensures.status, c.as_bytes-else-use_stderr.result.now, c.write_text-else-use_stderr.ensures.part, c.say-in-Err.ensures.said)))
