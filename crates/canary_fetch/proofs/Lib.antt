mod ReadingLemmas
mod FrontLemmas
mod OneReply
mod AddressLemmas
