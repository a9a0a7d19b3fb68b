use Rattle.std.proofs.Common.{refl}
use Rattle.registry_tasks.proofs.TokenLemmas.{whatever_it_is}
use Rattle.registry_tasks.proofs.tokens.token_of.Goals as goal

pub returns-in-Ok : goal.returns-in-Ok
returns-in-Ok g c = rw c.in-Input.is (record { given = c.in-Ok.ensures.read; refused = tt; spared = c.in-Ok.ensures.within; placed = tt })

pub returns-in-Err : goal.returns-in-Err
returns-in-Err g c = rw c.in-Input.is (record {
  given = tt;
  refused = rw c.no_token.ensures.failure c.in-Err.ensures.refused;
  spared = c.in-Err.ensures.within;
  placed = c.no_token.ensures.place;
})

pub returns-in-File : goal.returns-in-File
returns-in-File g c = rw c.in-File.is (record {
  given = whatever_it_is c.token_in_file.result _ (λ token. refl);
  refused = c.token_in_file.ensures.refused;
  spared = refl;
  placed = c.token_in_file.ensures.placed;
})
