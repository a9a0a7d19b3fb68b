use Rattle.std.proofs.Common.{ap}
use Rattle.std.proofs.KnownBytes.{Consumes-nil}
use Rattle.registry_model.specs.Keeping.{state_of}
use Rattle.registry_conversation.specs.declared.phase.Step.TheVariants as step
use Rattle.registry_conversation.specs.ConversationShowing.{shown}
use Rattle.registry_conversation.proofs.ServingLemmas.{at_first, went_on, broke_off, heard, not_heard}
use Rattle.registry_conversation.proofs.whole_connection.serve_requests.Goals as goal

pub turns-init : goal.turns-init
turns-init g c =
    record {
      honest = λ h. h;
      stands = λ h. at_first c.args.settings (shown c.args.conversation.now) (g.R.Read.remaining c.args.reader.now) (g.W.Write.contents c.args.writer.now) (state_of (g.K.Keeper.kept c.args.service.now)) c.requires;
    }

pub returns-in-Err-clause-serves : goal.returns-in-Err-clause-serves
returns-in-Err-clause-serves g c =
    λ honest.
    broke_off c.answer_next-step.result (shown c.turns.conversation) (shown c.answer_next-step.new.self)
    (record {
      settings = c.args.settings;
      left = g.R.Read.remaining c.args.reader.now;
      left' = g.R.Read.remaining c.turns.reader;
      held = g.W.Write.contents c.args.writer.now;
      held' = g.W.Write.contents c.turns.writer;
      state = state_of (g.K.Keeper.kept c.args.service.now);
      state' = state_of (g.K.Keeper.kept c.turns.service);
    })
    (state_of (g.K.Keeper.kept c.answer_next-step.new.service)) c.in-Err.written (g.W.Write.contents c.send_out.new.writer) (
      λ e ended. let all = c.answer_next-step.ensures.over e ended in (all.0, all.1, ap (λ s. state_of (g.K.Keeper.kept s)) all.2),
      c.answer_next-step.ensures.finished,
      c.answer_next-step.ensures.acts honest,
    )
    (c.turns.invariant.stands (c.answer_next-step.ensures.honest honest)) c.in-Err.ensures.sends.0 c.in-Err.ensures.sends.1

pub turns-preserved-in-Answered : goal.turns-preserved-in-Answered
turns-preserved-in-Answered g c =
    record {
      honest = λ h. c.turns.invariant.honest (c.answer_next-step.ensures.honest h);
      stands = λ honest. went_on c.answer_next-step.result (step.Answered) (shown c.turns.conversation) (shown c.answer_next-step.new.self) (shown c.send_out.new.conversation)
          (record {
            settings = c.args.settings;
            left = g.R.Read.remaining c.args.reader.now;
            left' = g.R.Read.remaining c.turns.reader;
            held = g.W.Write.contents c.args.writer.now;
            held' = g.W.Write.contents c.turns.writer;
            state = state_of (g.K.Keeper.kept c.args.service.now);
            state' = state_of (g.K.Keeper.kept c.turns.service);
          })
          (state_of (g.K.Keeper.kept c.answer_next-step.new.service)) (g.W.Write.contents c.send_out.new.writer) (
            λ e ended. let all = c.answer_next-step.ensures.over e ended in (all.0, all.1, ap (λ s. state_of (g.K.Keeper.kept s)) all.2),
            c.answer_next-step.ensures.finished,
            c.answer_next-step.ensures.acts honest,
          )
          (c.turns.invariant.stands (c.answer_next-step.ensures.honest honest)) c.in-Answered.is c.in-Ok.ensures.sends c.in-Ok.ensures.told;
    }

pub turns-preserved-in-Interim : goal.turns-preserved-in-Interim
turns-preserved-in-Interim g c =
    record {
      honest = λ h. c.turns.invariant.honest (c.answer_next-step.ensures.honest h);
      stands = λ honest. went_on c.answer_next-step.result (step.Interim) (shown c.turns.conversation) (shown c.answer_next-step.new.self) (shown c.send_out.new.conversation)
          (record {
            settings = c.args.settings;
            left = g.R.Read.remaining c.args.reader.now;
            left' = g.R.Read.remaining c.turns.reader;
            held = g.W.Write.contents c.args.writer.now;
            held' = g.W.Write.contents c.turns.writer;
            state = state_of (g.K.Keeper.kept c.args.service.now);
            state' = state_of (g.K.Keeper.kept c.turns.service);
          })
          (state_of (g.K.Keeper.kept c.answer_next-step.new.service)) (g.W.Write.contents c.send_out.new.writer) (
            λ e ended. let all = c.answer_next-step.ensures.over e ended in (all.0, all.1, ap (λ s. state_of (g.K.Keeper.kept s)) all.2),
            c.answer_next-step.ensures.finished,
            c.answer_next-step.ensures.acts honest,
          )
          (c.turns.invariant.stands (c.answer_next-step.ensures.honest honest)) c.in-Interim.is c.in-Ok.ensures.sends c.in-Ok.ensures.told;
    }

pub returns-in-Ended-clause-serves : goal.returns-in-Ended-clause-serves
returns-in-Ended-clause-serves g c =
    λ honest. went_on c.answer_next-step.result (step.Ended c.in-Ended.end) (shown c.turns.conversation) (shown c.answer_next-step.new.self) (shown c.send_out.new.conversation)
    (record {
      settings = c.args.settings;
      left = g.R.Read.remaining c.args.reader.now;
      left' = g.R.Read.remaining c.turns.reader;
      held = g.W.Write.contents c.args.writer.now;
      held' = g.W.Write.contents c.turns.writer;
      state = state_of (g.K.Keeper.kept c.args.service.now);
      state' = state_of (g.K.Keeper.kept c.turns.service);
    })
    (state_of (g.K.Keeper.kept c.answer_next-step.new.service)) (g.W.Write.contents c.send_out.new.writer) (
      λ e ended. let all = c.answer_next-step.ensures.over e ended in (all.0, all.1, ap (λ s. state_of (g.K.Keeper.kept s)) all.2),
      c.answer_next-step.ensures.finished,
      c.answer_next-step.ensures.acts honest,
    )
    (c.turns.invariant.stands (c.answer_next-step.ensures.honest honest)) c.in-Ended.is c.in-Ok.ensures.sends c.in-Ok.ensures.told

pub returns-then-reads-eq0-clause-serves : goal.returns-then-reads-eq0-clause-serves
returns-then-reads-eq0-clause-serves g c =
    λ honest. not_heard (shown c.send_out.new.conversation) (shown c.send_out.new.conversation) (record {
      settings = c.args.settings;
      left = g.R.Read.remaining c.args.reader.now;
      left' = g.R.Read.remaining c.turns.reader;
      held = g.W.Write.contents c.args.writer.now;
      held' = g.W.Write.contents c.send_out.new.writer;
      state = state_of (g.K.Keeper.kept c.args.service.now);
      state' = state_of (g.K.Keeper.kept c.answer_next-step.new.service);
    }) (g.R.Read.remaining c.turns.reader)
    (went_on c.answer_next-step.result (step.Waits) (shown c.turns.conversation) (shown c.answer_next-step.new.self) (shown c.send_out.new.conversation)
    (record {
      settings = c.args.settings;
      left = g.R.Read.remaining c.args.reader.now;
      left' = g.R.Read.remaining c.turns.reader;
      held = g.W.Write.contents c.args.writer.now;
      held' = g.W.Write.contents c.turns.writer;
      state = state_of (g.K.Keeper.kept c.args.service.now);
      state' = state_of (g.K.Keeper.kept c.turns.service);
    })
    (state_of (g.K.Keeper.kept c.answer_next-step.new.service)) (g.W.Write.contents c.send_out.new.writer) (
      λ e ended. let all = c.answer_next-step.ensures.over e ended in (all.0, all.1, ap (λ s. state_of (g.K.Keeper.kept s)) all.2),
      c.answer_next-step.ensures.finished,
      c.answer_next-step.ensures.acts honest,
    )
    (c.turns.invariant.stands (c.answer_next-step.ensures.honest honest)) c.in-Waits.is c.in-Ok.ensures.sends c.in-Ok.ensures.told)
    (Consumes-nil (g.R.Read.remaining c.turns.reader))

pub turns-preserved : goal.turns-preserved
turns-preserved g c =
    record {
      honest = λ h. c.turns.invariant.honest (c.answer_next-step.ensures.honest h);
      stands = λ honest. heard (shown c.send_out.new.conversation) (shown c.read_from.new.self) (record {
        settings = c.args.settings;
        left = g.R.Read.remaining c.args.reader.now;
        left' = g.R.Read.remaining c.turns.reader;
        held = g.W.Write.contents c.args.writer.now;
        held' = g.W.Write.contents c.send_out.new.writer;
        state = state_of (g.K.Keeper.kept c.args.service.now);
        state' = state_of (g.K.Keeper.kept c.answer_next-step.new.service);
      }) (g.R.Read.remaining c.read_from.new.reader)
          (went_on c.answer_next-step.result (step.Waits) (shown c.turns.conversation) (shown c.answer_next-step.new.self) (shown c.send_out.new.conversation)
          (record {
            settings = c.args.settings;
            left = g.R.Read.remaining c.args.reader.now;
            left' = g.R.Read.remaining c.turns.reader;
            held = g.W.Write.contents c.args.writer.now;
            held' = g.W.Write.contents c.turns.writer;
            state = state_of (g.K.Keeper.kept c.args.service.now);
            state' = state_of (g.K.Keeper.kept c.turns.service);
          })
          (state_of (g.K.Keeper.kept c.answer_next-step.new.service)) (g.W.Write.contents c.send_out.new.writer) (
            λ e ended. let all = c.answer_next-step.ensures.over e ended in (all.0, all.1, ap (λ s. state_of (g.K.Keeper.kept s)) all.2),
            c.answer_next-step.ensures.finished,
            c.answer_next-step.ensures.acts honest,
          )
          (c.turns.invariant.stands (c.answer_next-step.ensures.honest honest)) c.in-Waits.is c.in-Ok.ensures.sends c.in-Ok.ensures.told)
          c.in-Ok-read_from.ensures.cases;
    }

pub returns-in-Err-read_from-clause-serves : goal.returns-in-Err-read_from-clause-serves
returns-in-Err-read_from-clause-serves g c =
    λ honest. not_heard (shown c.send_out.new.conversation) (shown c.send_out.new.conversation) (record {
      settings = c.args.settings;
      left = g.R.Read.remaining c.args.reader.now;
      left' = g.R.Read.remaining c.turns.reader;
      held = g.W.Write.contents c.args.writer.now;
      held' = g.W.Write.contents c.send_out.new.writer;
      state = state_of (g.K.Keeper.kept c.args.service.now);
      state' = state_of (g.K.Keeper.kept c.answer_next-step.new.service);
    }) (g.R.Read.remaining c.read_from.new.reader)
    (went_on c.answer_next-step.result (step.Waits) (shown c.turns.conversation) (shown c.answer_next-step.new.self) (shown c.send_out.new.conversation)
    (record {
      settings = c.args.settings;
      left = g.R.Read.remaining c.args.reader.now;
      left' = g.R.Read.remaining c.turns.reader;
      held = g.W.Write.contents c.args.writer.now;
      held' = g.W.Write.contents c.turns.writer;
      state = state_of (g.K.Keeper.kept c.args.service.now);
      state' = state_of (g.K.Keeper.kept c.turns.service);
    })
    (state_of (g.K.Keeper.kept c.answer_next-step.new.service)) (g.W.Write.contents c.send_out.new.writer) (
      λ e ended. let all = c.answer_next-step.ensures.over e ended in (all.0, all.1, ap (λ s. state_of (g.K.Keeper.kept s)) all.2),
      c.answer_next-step.ensures.finished,
      c.answer_next-step.ensures.acts honest,
    )
    (c.turns.invariant.stands (c.answer_next-step.ensures.honest honest)) c.in-Waits.is c.in-Ok.ensures.sends c.in-Ok.ensures.told)
    c.in-Err-read_from.ensures.cases
