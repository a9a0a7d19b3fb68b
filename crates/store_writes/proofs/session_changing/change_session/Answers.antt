use Rattle.store_writes.proofs.session_changing.change_session.Goals as goal

pub add_session-requires : goal.add_session-requires
add_session-requires g c = record { fits = rw c.in-Open.is at c.requires.fits }

pub add_bytes-requires : goal.add_bytes-requires
add_bytes-requires g c = let fits = rw c.in-Append.is at c.requires.fits in record { suits = fits.2; hashed = fits.3; number_fits = fits.0; fits = fits.1 }

pub end_session-requires : goal.end_session-requires
end_session-requires g c = let fits = rw c.in-Finish.is at c.requires.fits in record { number_fits = fits.0; right = fits.1; fits = fits.2; matching = fits.3 }

pub end_whole-requires : goal.end_whole-requires
end_whole-requires g c = let fits = rw c.in-Link.is at c.requires.fits in record { number_fits = fits.0; fits = fits.1 }

pub take_session-requires : goal.take_session-requires
take_session-requires g c = record { fits = rw c.in-Take.is at c.requires.fits }

pub returns-in-Open : goal.returns-in-Open
returns-in-Open g c = record {
  made = rw c.in-Open.is (λ l suits. c.add_session.ensures.opened l);
  kept = λ l suits. c.add_session.ensures.kept l;
  same_reference = c.add_session.ensures.same_reference;
  survives = c.add_session.ensures.survives;
}

pub returns-in-Append : goal.returns-in-Append
returns-in-Append g c = record {
  made = rw c.in-Append.is (c.add_bytes.ensures.appended);
  kept = rw c.in-Append.is (c.add_bytes.ensures.kept);
  same_reference = c.add_bytes.ensures.same_reference;
  survives = c.add_bytes.ensures.survives;
}

pub returns-in-Finish : goal.returns-in-Finish
returns-in-Finish g c = record {
  made = rw c.in-Finish.is (c.end_session.ensures.finished);
  kept = rw c.in-Finish.is (c.end_session.ensures.kept);
  same_reference = c.end_session.ensures.same_reference;
  survives = c.end_session.ensures.survives;
}

pub returns-in-Link : goal.returns-in-Link
returns-in-Link g c = record {
  made = rw c.in-Link.is (λ l suits. c.end_whole.ensures.ended l);
  kept = λ l suits. c.end_whole.ensures.kept l;
  same_reference = c.end_whole.ensures.same_reference;
  survives = c.end_whole.ensures.survives;
}

pub returns-in-Take : goal.returns-in-Take
returns-in-Take g c = record {
  made = rw c.in-Take.is (λ l suits clean is asks. c.take_session.ensures.taken l clean is);
  kept = λ l suits. c.take_session.ensures.kept l;
  same_reference = c.take_session.ensures.same_reference;
  survives = c.take_session.ensures.survives;
}

pub returns-in-TakeAll : goal.returns-in-TakeAll
returns-in-TakeAll g c = record {
  made = rw c.in-TakeAll.is (λ l suits clean is asks. c.take_sessions.ensures.taken l clean is);
  kept = λ l suits. c.take_sessions.ensures.kept l;
  same_reference = c.take_sessions.ensures.same_reference;
  survives = c.take_sessions.ensures.survives;
}
