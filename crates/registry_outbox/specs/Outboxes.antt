-- What is to go out on a connection, in parts.
use Rattle.std.specs.Prelude.{◌++◌, drop}
use Rattle.oci_types.specs.Text.{Text}
use Rattle.registry_model.specs.Answer.{content_of}
use Rattle.registry_http.specs.ReplyText.{sent_text}
use Rattle.registry_outbox.specs.declared.outbox.Outbox.{Outbox}
use Rattle.registry_outbox.specs.declared.outbox.Outgoing.{Outgoing}

abbrev pub outgoing_text : Outgoing → Text
outgoing_text o = o.head.now ++ o.body.now

-- of the heads, and of the body behind them
abbrev pub heads_left : Outbox → Text
heads_left o = drop o.gone o.heads.items

abbrev pub body_left : Outbox → Text
body_left o = drop o.body_gone (sent_text (content_of o.body))

abbrev pub left : Outbox → Text
left o = heads_left o ++ body_left o
