-- Lemmas by topic.
mod ContentLemmas
mod PrefixLemmas
mod WritingLemmas
