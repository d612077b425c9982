mod ShownLemmas
mod ReadingLemmas
mod ValueLemmas
mod QueryLemmas
mod NumberLemmas
