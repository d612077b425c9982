-- A conversation as contracts see it.
use Rattle.canary_wire.specs.declared.conversation.Conversation.{Conversation}
use Rattle.canary_wire.specs.Buffers.{bytes_held}
use Rattle.canary_wire.specs.Unsent.{bytes_unsent}
use Rattle.canary_wire.specs.Conversing.{Talk, talk}

abbrev pub talk_of : Conversation → Talk
talk_of c = talk (bytes_held c.buffer) (bytes_unsent c.unsent) c.stage
