mod EachKeyword
mod SpelledSo
