mod Lexed
