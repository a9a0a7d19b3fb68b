use Rattle.registry_conversation.proofs.part.take_part.Goals as goal

pub returns-in-Length : goal.returns-in-Length
returns-in-Length c = rw c.in-Length.is (record { takes = c.take_length.ensures.takes c.args.settings; fewer = c.take_length.ensures.fewer; smaller = c.take_length.ensures.smaller c.args.settings })

pub returns-in-Line : goal.returns-in-Line
returns-in-Line c = rw c.in-Line.is (record { takes = c.take_line.ensures.takes; fewer = c.take_line.ensures.fewer; smaller = c.take_line.ensures.smaller })

pub returns-in-Data : goal.returns-in-Data
returns-in-Data c = rw c.in-Data.is (record { takes = c.take_data.ensures.takes c.args.settings; fewer = c.take_data.ensures.fewer; smaller = c.take_data.ensures.smaller c.args.settings })

pub returns-in-Trailer : goal.returns-in-Trailer
returns-in-Trailer c = rw c.in-Trailer.is (record { takes = c.take_trailer.ensures.takes c.args.settings; fewer = c.take_trailer.ensures.fewer; smaller = c.take_trailer.ensures.smaller c.args.settings })
