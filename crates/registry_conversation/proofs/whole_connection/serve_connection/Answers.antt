use Rattle.std.proofs.Common.{inl, refl, []}
use Rattle.registry_http.proofs.ConnectionProgress.{starts, memory_serves}
use Rattle.registry_conversation.proofs.whole_connection.serve_connection.Goals as goal

pub serve_requests-requires : goal.serve_requests-requires
serve_requests-requires g c = c.new-conversation.ensures

pub returns-in-Ok : goal.returns-in-Ok
returns-in-Ok g c = record { honest = c.serve_requests.ensures.honest; serves = c.serve_requests.ensures.serves }

pub returns-in-Err : goal.returns-in-Err
returns-in-Err g c = record {
  honest = λ honest. honest;
  serves = λ honest. memory_serves [] [] _ (starts _ _ _ _) _ _ _ _ (λ tail. inl refl) refl c.refuse.ensures;
}
